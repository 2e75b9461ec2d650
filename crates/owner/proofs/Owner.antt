-- All that the owner asked for, proved.
use Rattle.owner.specs.Owner.{Owner}
use Rattle.demands.proofs.Refusals.{demand_1}
use Rattle.demands.proofs.Calls.{demand_1_of_calls, chips_stay_good}
use Rattle.demands.proofs.Outcomes.{one_outcome_lem, one_outcome_of_calls, one_outcome_where_asked_lem}
use Rattle.demands.proofs.Ranges.{ranges_kept}
use Rattle.demands.proofs.Steps.{steps_over_the_width}
use Rattle.demands.proofs.Sheets.{round_trips}
use Rattle.demands.proofs.Rounds.{round_is_calls_lem, spelled_leads, round_stops_lem}
use Rattle.demands.proofs.Fairness.{demand_3, demand_3_reported, lowest_kept}
use Rattle.demands.proofs.Services.{stops_as_said}
use Rattle.requests.proofs.Copies.{copy_loop}
use Rattle.requests.proofs.Editions.{editions_differ}
use Rattle.requests.proofs.Waits.{slow_cards_lem}
use Rattle.requests.proofs.Most.{most_counted}
use Rattle.requests.proofs.Forms.{sheet_forms_lem}
use Rattle.requests.proofs.Logs.{logs_judged}
use Rattle.board_demands.proofs.Board.{board_demands_lem}
use Rattle.owner.proofs.Cases.{worked_cases, tight}

pub owner : Owner
owner =
    record {
      refusals = demand_1;
      refusals_in_c = demand_1_of_calls;
      one_outcome = one_outcome_lem;
      one_outcome_in_c = one_outcome_of_calls;
      one_outcome_where_asked = one_outcome_where_asked_lem;
      steps = steps_over_the_width;
      cases = worked_cases;
      sheet_trips = round_trips;
      ranges = ranges_kept;
      good_chips = chips_stay_good;
      rounds = round_is_calls_lem;
      rounds_among_others = spelled_leads;
      round_stops = round_stops_lem;
      services = stops_as_said;
      fairness = demand_3;
      fair_reports = demand_3_reported;
      lowest = lowest_kept;
      copies = copy_loop;
      editions = editions_differ;
      slow_cards = slow_cards_lem;
      most = most_counted;
      sheet_forms = sheet_forms_lem;
      logs = logs_judged;
      board = board_demands_lem;
      tight = tight;
    }
