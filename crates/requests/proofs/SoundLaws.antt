-- An accepted log is the log of the run that it tells of, and leaves what that run leaves.
use Prim.Native.Nat.{ℕ, zero, suc, ◌+◌, ◌*◌, ◌/◌, ◌%◌, ◌≤◌, ◌<◌}
use mathlib.Core.Path.{◌≡◌, refl, sym, ap, ◌∙◌, subst}
use mathlib.Core.Bool.{Bool, true, false, not, ◌&&◌, ◌||◌}
use mathlib.Core.List.{List, [], ◌∷◌, ◌++◌}
use native.Mathlib.Omega.{arith}
use lib.Dec.{eqb, leb}
use lib.IntN.{pos}
use lib.ListN.{length, get_or, drop, length-set, length-drop}
use lib.Seq.{drop-cons, get_or-drop, drop-drop}
use borrow.Author.Tests.{eqb-true, eqb-false, eq-eqb, ne_eqb, lt-leb}
use Rattle.words.specs.Choice.{when}
use Rattle.words.specs.Bytes.{word_of, low_byte, high_byte}
use Rattle.words.specs.Grounds.{first}
use Rattle.am9517.specs.State.{ended}
use Rattle.am9517.specs.Modes.{is_write, is_read, is_cascade}
use Rattle.am9517.specs.Refusals.{refusal, busy}
use Rattle.am9517.specs.declared.Controller.{Controller}
use Rattle.am9517_service.specs.declared.Reason.TheVariants.{Ended, Dropped, Limit}
use Rattle.am9517_service.specs.World.{World, Stop, stop, with_controller, memory_to_memory, serving_channel, start_of}
use Rattle.am9517_service.specs.Stops.{dropped, short, stops}
use Rattle.am9517_service.specs.Transfer.{writes, reads, moved}
use Rattle.am9517_service.specs.Copy.{copied}
use Rattle.am9517_service.specs.Ends.{reaches_tc, after_tc_or_eop, single, ends}
use Rattle.am9517_service.specs.Run.{transferred, run_of}
use Rattle.am9517_service.specs.Answers.{run_grounds}
use Rattle.words.proofs.ChoiceLaws.{when_hit, when_miss, when_both, when_over, never, not-false, both}
use Rattle.am9517.proofs.RangeLaws.{and_left}
use Rattle.am9517_service.proofs.RunLaws.{transferred_moved}
use Rattle.am9517_service.proofs.RunWayLaws.{neither_right}
use Rattle.logs.specs.declared.Verdict.{Verdict}
use Rattle.logs.specs.declared.Verdict.TheVariants.{Accepted}
use Rattle.logs.specs.declared.Record.{Record}
use Rattle.logs.specs.Record.{record_in, bytes_of, moved_byte, record_of}
use Rattle.logs.specs.Judge.{next_run, transfers, tells_eop, same, is_right, Found, found, behind, judged}
use Rattle.logs.specs.Log.{unless, log_of, onward, bytes_told, eop_told}
use Rattle.logs.specs.Answers.{judged_of}
use Rattle.logs.specs.ClosedRegisters.{flows}
use Rattle.logs.proofs.NextLaws.{after_alike, Alike, copy_alike, flows_alike, over_idle, transfers_is}
use Rattle.logs.proofs.JudgeLaws.{same_is, judged_still}
use Rattle.requests.specs.Logs.{verdict, Bytes, soundly}
use Rattle.requests.specs.Logs as logs
use Rattle.logs.proofs.KeepLaws.{state_behind, memory_behind, judged_right, judged_wrong, judged_none}
use Rattle.requests.proofs.JudgedLaws.{reached}
use Rattle.requests.proofs.VerdictLaws.{all_right, said_all, at_all, verdict_is, given_is}
use Rattle.requests.proofs.LogStepLaws.{same_controller, one_more, left_controller, left_memory}
use Rattle.requests.proofs.HonestLaws.{ended_not, limit_not, stops_both, ends_both}

-- which transfer of a run meets EOP that a log tells of, where so many are made
abbrev eop_from : ℕ → ℕ → ℕ
eop_from t e = when (eqb e 0) 0 (t + e)

-- what a log of so many records tells of a run from here
pub record Told (w : World) (d : List ℕ) (eop n : ℕ) (log : List ℕ) : Type 0 where
  pub size : length log ≡ 8 * n
  pub bytes : Bytes log
  pub device : memory_to_memory w.controller ≡ false → writes (serving_channel w.controller) ≡ true → drop w.counts.used d ≡ bytes_told n log
  pub space : memory_to_memory w.controller ≡ false → reads (serving_channel w.controller) ≡ true → w.counts.written + n ≤ length w.room
  pub meets : eop ≡ eop_from w.counts.transfers (eop_told n log)

-- bytes make the record that is read from them, and what comes behind
eight : (l : List ℕ) → 8 ≤ length l
    → l ≡ get_or l 0 0 ∷ get_or l 1 0 ∷ get_or l 2 0 ∷ get_or l 3 0 ∷ get_or l 4 0 ∷ get_or l 5 0 ∷ get_or l 6 0 ∷ get_or l 7 0 ∷ drop 8 l
eight l h =
    let at : (i : ℕ) → i < 8 → drop i l ≡ get_or l i 0 ∷ drop (suc i) l = λ i g. drop-cons l i 0 (omega arith) in
    at 0 (omega arith)
    ∙ ap (λ (k : List ℕ). get_or l 0 0 ∷ k) (at 1 (omega arith)
    ∙ ap (λ (k : List ℕ). get_or l 1 0 ∷ k) (at 2 (omega arith)
    ∙ ap (λ (k : List ℕ). get_or l 2 0 ∷ k) (at 3 (omega arith)
    ∙ ap (λ (k : List ℕ). get_or l 3 0 ∷ k) (at 4 (omega arith)
    ∙ ap (λ (k : List ℕ). get_or l 4 0 ∷ k) (at 5 (omega arith) ∙ ap (λ (k : List ℕ). get_or l 5 0 ∷ k) (at 6 (omega arith) ∙ ap (λ (k : List ℕ). get_or l 6 0 ∷ k) (at 7 (omega arith))))))))

pub written_back : (l : List ℕ) → Bytes l → 8 ≤ length l → l ≡ bytes_of (record_in l) ++ drop 8 l
written_back l b h =
    let low : (x y : ℕ) → x < 256 → x ≡ low_byte (word_of x y) = λ x y g. omega arith in
    let high : (x y : ℕ) → x < 256 → y ≡ high_byte (word_of x y) = λ x y g. omega arith in
    eight l h
    ∙ ap (λ (x : ℕ). get_or l 0 0 ∷ get_or l 1 0 ∷ x ∷ get_or l 3 0 ∷ get_or l 4 0 ∷ get_or l 5 0 ∷ get_or l 6 0 ∷ get_or l 7 0 ∷ drop 8 l) (low (get_or l 2 0) (get_or l 3 0) (b 2))
    ∙ ap (λ (x : ℕ). get_or l 0 0 ∷ get_or l 1 0 ∷ (record_in l).address % 256 ∷ x ∷ get_or l 4 0 ∷ get_or l 5 0 ∷ get_or l 6 0 ∷ get_or l 7 0 ∷ drop 8 l) (high (get_or l 2 0) (get_or l 3 0) (b 2))
    ∙ ap (λ (x : ℕ). get_or l 0 0 ∷ get_or l 1 0 ∷ (record_in l).address % 256 ∷ (record_in l).address / 256 ∷ x ∷ get_or l 5 0 ∷ get_or l 6 0 ∷ get_or l 7 0 ∷ drop 8 l) (low (get_or l 4 0) (get_or l 5 0) (b 4))
    ∙ ap (λ (x : ℕ). get_or l 0 0 ∷ get_or l 1 0 ∷ (record_in l).address % 256 ∷ (record_in l).address / 256 ∷ (record_in l).second % 256 ∷ x ∷ get_or l 6 0 ∷ get_or l 7 0 ∷ drop 8 l) (high (get_or l 4 0) (get_or l 5 0) (b 4))

-- a record that is right tells that the service flows, and what it should say
module _ (c : Controller) (m : List ℕ) (r : Record) (e : is_right c m r ≡ true) where
  parts : (transfers c m r.byte (tells_eop r) ≡ true) × (same r (record_of c m r.byte (tells_eop r)) ≡ true)
  unfolding is_right
  parts = let t = both _ _ e in (t.left, t.right)

  pub busy_then : busy c ≡ true
  unfolding transfers
  busy_then = and_left _ _ parts.0

  pub flows_then : flows c ≡ true
  flows_then = sym (transfers_is c m r.byte (tells_eop r) busy_then) ∙ parts.0

  pub said_then : r ≡ record_of c m r.byte (tells_eop r)
  said_then = same_is r _ parts.1

-- only a device's write takes its byte
byte_by : (c : Controller) (m : List ℕ) (x y : ℕ) → (memory_to_memory c ≡ false → writes (serving_channel c) ≡ true → x ≡ y) → moved_byte c m x ≡ moved_byte c m y
unfolding moved_byte
byte_by c m x y h =
    when_over (λ (n : ℕ). n) (memory_to_memory c) (λ ic. refl) (λ nc. when_over (λ (n : ℕ). n) (writes (serving_channel c)) (λ w. h nc w) (λ w. refl))

-- Nothing stops a transfer that is supplied.
module _ (w : World) (d : List ℕ) (n : ℕ) (f : flows w.controller ≡ true) (s : memory_to_memory w.controller ≡ false → short w d ≡ false) where
  free_run : memory_to_memory w.controller ≡ false → (dropped w.controller ≡ false) × (is_cascade (serving_channel w.controller).mode ≡ false)
  unfolding flows
  free_run nc = parted (memory_to_memory w.controller) (dropped w.controller) (is_cascade (serving_channel w.controller).mode) nc f
    where
      parted : (t a b : Bool) → t ≡ false → t || not (a || b) ≡ true → (a ≡ false) × (b ≡ false)
      parted true a b e h = never e
      parted false true b e h = never (sym h)
      parted false false true e h = never (sym h)
      parted false false false e h = (refl, refl)

  some_left : eqb (suc n) 0 ≡ false
  some_left = ne_eqb (suc n) 0 (λ z. omega (arith, z))

  pub run_free : (x : Stop) → first (stops w d (suc n)) x ≡ x
  unfolding stops first when
  run_free x = go (memory_to_memory w.controller) refl
    where
      go : (t : Bool) → memory_to_memory w.controller ≡ t → first (stops w d (suc n)) x ≡ x
      go true ic = simp (ic, some_left)
      go false nc = simp (nc, (free_run nc).0, (free_run nc).1, some_left, s nc)

  pub log_free : (l : List ℕ) → unless (stops w d (suc n)) l ≡ l
  unfolding stops unless when
  log_free l = go (memory_to_memory w.controller) refl
    where
      go : (t : Bool) → memory_to_memory w.controller ≡ t → unless (stops w d (suc n)) l ≡ l
      go true ic = simp (ic, some_left)
      go false nc = simp (nc, (free_run nc).0, (free_run nc).1, some_left, s nc)

-- What a transfer does to the counts and the room.
module _ (w : World) (d : List ℕ) where
  abbrev c : Controller
  c = w.controller

  abbrev next : World
  next = transferred w d

  used_on : memory_to_memory c ≡ false → writes (serving_channel c) ≡ true → next.counts.used ≡ w.counts.used + 1
  unfolding moved when
  used_on nc h = ap (λ (v : World). v.counts.used) (transferred_moved 0 d w nc) ∙ simp h

  written_on : memory_to_memory c ≡ false → reads (serving_channel c) ≡ true → next.counts.written ≡ w.counts.written + 1
  unfolding moved when
  written_on nc h = ap (λ (v : World). v.counts.written) (transferred_moved 0 d w nc) ∙ simp h

  room_on : length next.room ≡ length w.room
  unfolding transferred copied moved
  room_on =
      when_both (λ (v : World). length v.room ≡ length w.room) (memory_to_memory c) refl
      (when_both (λ (l : List ℕ). length l ≡ length w.room) (reads (serving_channel c)) (length-set w.room w.counts.written _) refl)

  alike_on : Alike c next.controller
  alike_on = subst (Alike c) (same_controller w d false) (after_alike c w.memory _)

-- A log that is right all along.
pub record SoundTo (w : World) (n : ℕ) (log : List ℕ) (s : Stop) (l : List ℕ) : Type 0 where
  pub same : log ≡ l
  pub left : (s.reason ≡ Dropped → ⊥) → ((judged n w.controller w.memory log).controller ≡ s.world.controller) × ((judged n w.controller w.memory log).memory ≡ s.world.memory)
  pub none : s.reason ≡ Dropped → n ≡ 0

empty : (l : List ℕ) → length l ≡ 0 → l ≡ []
empty [] e = refl
empty (x ∷ xs) e = absurd (omega arith)

-- of no records: the run stops where it is, or finds the line dropped
abbrev NoneTo : World → Stop → List ℕ → Type 0
NoneTo w s l = (l ≡ []) × ((s.reason ≡ Dropped → ⊥) → (w.controller ≡ s.world.controller) × (w.memory ≡ s.world.memory))

none_stopped : (w : World) (d : List ℕ) → NoneTo w (first (stops w d 0) (stop w Limit)) (unless (stops w d 0) [])
none_stopped w d = stops_both (NoneTo w) w d 0 (stop w Limit) [] (λ nc e. (refl, λ h. absurd (h refl))) (λ e z. (refl, λ h. (refl, refl))) (λ f. (refl, λ h. (refl, refl)))

sound_none : (w : World) (d : List ℕ) (eop : ℕ) (log : List ℕ) → length log ≡ 0 → SoundTo w 0 log (run_of 0 eop d w) (log_of 0 eop d w)
unfolding run_of log_of
sound_none w d eop log e =
    let none = judged_none w.controller w.memory log in
    record {
      same = empty log e;
      left = λ h.
          let at = (none_stopped w d).1 h in
          (ap (λ (f : Found). f.controller) none ∙ at.0, ap (λ (f : Found). f.memory) none ∙ at.1);
      none = λ h. refl;
    }

-- EOP is told of the record at which the run meets it, and else of a later one or of none
eop_later : (t e : ℕ) → eop_from t (onward e) ≡ eop_from (t + 1) e
unfolding when
eop_later t e = go (eqb e 0) refl
  where
    go : (b : Bool) → eqb e 0 ≡ b → when (eqb (when b 0 (e + 1)) 0) 0 (t + when b 0 (e + 1)) ≡ when b 0 (t + 1 + e)
    go true h = refl
    go false h = let more : eqb (e + 1) 0 ≡ false = ne_eqb (e + 1) 0 (λ z. omega (arith, z)) in rw more (omega arith)

eop_not_yet : (t e : ℕ) → eqb (t + 1) (eop_from (t + 1) e) ≡ false
unfolding when
eop_not_yet t e = go (eqb e 0) refl
  where
    go : (b : Bool) → eqb e 0 ≡ b → eqb (t + 1) (when b 0 (t + 1 + e)) ≡ false
    go true h = ne_eqb (t + 1) 0 (λ z. omega (arith, z))
    go false h = let some = eqb-false e 0 h in ne_eqb (t + 1) (t + 1 + e) (λ z. some (omega (arith, z)))

-- One record more.
module _ (w : World) (d : List ℕ) (eop n : ℕ) (log : List ℕ) (T : Told w d eop (suc n) log) (e : is_right w.controller w.memory (record_in log) ≡ true) where
  abbrev m : List ℕ
  m = w.memory

  abbrev r : Record
  r = record_in log

  abbrev x : Controller
  x = w.controller

  abbrev rest : List ℕ
  rest = drop 8 log

  abbrev device : ℕ
  device = get_or d w.counts.used 0

  abbrev met : Bool
  met = eqb (transferred w d).counts.transfers eop

  f : flows x ≡ true
  f = flows_then x m r e

  rest_size : length rest ≡ 8 * n
  rest_size = length-drop 8 log ∙ omega (arith, T.size)

  -- the device's byte is the one told
  stock : memory_to_memory x ≡ false → writes (serving_channel x) ≡ true → drop w.counts.used d ≡ r.byte ∷ bytes_told n rest
  unfolding bytes_told
  stock nc h = T.device nc h

  device_told : memory_to_memory x ≡ false → writes (serving_channel x) ≡ true → device ≡ r.byte
  device_told nc h =
      let place : w.counts.used + 0 ≡ w.counts.used = omega arith in
      sym (get_or-drop w.counts.used d 0 0 ∙ ap (λ (k : ℕ). get_or d k 0) place) ∙ ap (λ (l : List ℕ). get_or l 0 0) (stock nc h)

  bytes_left_lem : memory_to_memory x ≡ false → writes (serving_channel x) ≡ true → w.counts.used < length d
  bytes_left_lem nc h = omega (arith, length-drop w.counts.used d, ap length (stock nc h))

  room_left_lem : memory_to_memory x ≡ false → reads (serving_channel x) ≡ true → w.counts.written < length w.room
  room_left_lem nc h = omega (arith, T.space nc h)

  supplied : memory_to_memory x ≡ false → short w d ≡ false
  unfolding short
  supplied nc = go (writes (serving_channel x)) (reads (serving_channel x)) refl refl
    where
      go : (a b : Bool) → writes (serving_channel x) ≡ a → reads (serving_channel x) ≡ b → a && leb (length d) w.counts.used || b && leb (length w.room) w.counts.written ≡ false
      go true true h g = simp (lt-leb _ _ (bytes_left_lem nc h), lt-leb _ _ (room_left_lem nc g))
      go true false h g = simp (lt-leb _ _ (bytes_left_lem nc h))
      go false true h g = simp (lt-leb _ _ (room_left_lem nc g))
      go false false h g = refl

  -- EOP is met where it is told
  meets_by : (b : Bool) → tells_eop r ≡ b → eop ≡ eop_from w.counts.transfers (when b 1 (onward (eop_told n rest)))
  unfolding eop_told
  meets_by b h = T.meets ∙ ap (λ (t : Bool). eop_from w.counts.transfers (when t 1 (onward (eop_told n rest)))) h

  met_told : met ≡ tells_eop r
  unfolding when
  met_told = go (tells_eop r) refl
    where
      go : (b : Bool) → tells_eop r ≡ b → met ≡ b
      go true h = eq-eqb _ _ (one_more w d false ∙ sym (meets_by true h))
      go false h = ap (λ (k : ℕ). eqb k eop) (one_more w d false) ∙ ap (eqb (w.counts.transfers + 1)) (meets_by false h ∙ eop_later w.counts.transfers (eop_told n rest)) ∙ eop_not_yet w.counts.transfers (eop_told n rest)

  says : record_of x m device met ≡ r
  says =
      ap (λ (b : ℕ). record { channel = (record_of x m device met).channel; kind = (record_of x m device met).kind; address = (record_of x m device met).address; second = (record_of x m device met).second; byte = b; flags = (record_of x m device met).flags }) (byte_by x m device r.byte device_told)
      ∙ ap (record_of x m r.byte) met_told
      ∙ sym (said_then x m r e)

  rest_from : judged (suc n) x m log ≡ behind 8 (judged n (state_behind x m r) (memory_behind x m r) rest)
  rest_from = judged_right n x m log e

  -- the state and the memory behind the record are the run's
  next_told : next_run x m r.byte (tells_eop r) ≡ next_run x m (record_of x m device met).byte met
  next_told = ap (λ (q : Record). next_run x m q.byte (tells_eop r)) (sym says) ∙ ap (next_run x m (record_of x m device met).byte) (sym met_told)

  state_told_lem : state_behind x m r
      ≡ when (reaches_tc x || met) (after_tc_or_eop (transferred w d).controller (reaches_tc x) met) (when (single x) (ended (transferred w d).controller) (transferred w d).controller)
  state_told_lem = ap (λ (s : Stop). s.world.controller) next_told ∙ left_controller w d met f

  memory_told : memory_behind x m r ≡ (transferred w d).memory
  memory_told = ap (λ (s : Stop). s.world.memory) next_told ∙ left_memory w d met f

  log_told : log ≡ bytes_of (record_of x m device met) ++ rest
  log_told = written_back log T.bytes (omega (arith, T.size)) ∙ ap (λ (q : Record). bytes_of q ++ rest) (sym says)

  module _ (all : (judged (suc n) x m log).place ≡ 8 * suc n) where
    rest_all : (judged n (state_behind x m r) (memory_behind x m r) rest).place ≡ 8 * n
    rest_all = omega (arith, sym (ap (λ (g : Found). g.place) rest_from) ∙ all)

    -- it ends the service: there is no more
    last_told : (y : Controller) → state_behind x m r ≡ y → y.in_service ≡ 0 → SoundTo w (suc n) log (stop (with_controller (transferred w d) y) Ended) (bytes_of (record_of x m device met) ++ [])
    unfolding transfers
    last_told y is idle =
        let quiet : busy (state_behind x m r) ≡ false = ap (λ (z : Controller). not (eqb z.in_service 0)) is ∙ ap (λ (k : ℕ). not (eqb k 0)) idle in
        let still : judged n (state_behind x m r) (memory_behind x m r) rest ≡ found (state_behind x m r) (memory_behind x m r) 0 (pos 0) = judged_still n (state_behind x m r) (memory_behind x m r) rest (λ b t. simp quiet) in
        let few : n ≡ 0 = omega (arith, sym (ap (λ (g : Found). g.place) still) ∙ rest_all) in
        let whole = rest_from ∙ ap (behind 8) still in
        record {
          same = log_told ∙ ap (λ (l : List ℕ). bytes_of (record_of x m device met) ++ l) (empty rest (omega (arith, rest_size, few)));
          left = λ h. (ap (λ (g : Found). g.controller) whole ∙ is, ap (λ (g : Found). g.memory) whole ∙ memory_told);
          none = λ h. absurd (ended_not h);
        }

    -- it doesn't
    more_told : state_behind x m r ≡ (transferred w d).controller → (s : Stop) (l : List ℕ) → (s.reason ≡ Dropped → ⊥) → SoundTo (transferred w d) n rest s l
        → SoundTo w (suc n) log s (bytes_of (record_of x m device met) ++ l)
    more_told is s l never-so S =
        let on : judged n (state_behind x m r) (memory_behind x m r) rest ≡ judged n (transferred w d).controller (transferred w d).memory rest =
        ap (λ (z : Controller). judged n z (memory_behind x m r) rest) is ∙ ap (λ (k : List ℕ). judged n (transferred w d).controller k rest) memory_told in
        let whole = rest_from ∙ ap (behind 8) on in
        record {
          same = log_told ∙ ap (λ (k : List ℕ). bytes_of (record_of x m device met) ++ k) S.same;
          left = λ h. (ap (λ (g : Found). g.controller) whole ∙ (S.left h).0, ap (λ (g : Found). g.memory) whole ∙ (S.left h).1);
          none = λ h. absurd (never-so h);
        }

    -- what is told of the run from there
    next_told_of : tells_eop r ≡ false → Told (transferred w d) d eop n rest
    unfolding when
    next_told_of quiet =
        let A = alike_on w d in
        let same_copy = copy_alike x _ A in
        record {
          size = rest_size;
          bytes = λ i. subst (λ (k : ℕ). k < 256) (sym (get_or-drop 8 log i 0)) (T.bytes (8 + i));
          device = λ nc h.
              let nc' = sym same_copy ∙ nc in
              let h' = sym (ap is_write A.mode) ∙ h in
              ap (λ (k : ℕ). drop k d) (used_on w d nc' h') ∙ sym (drop-drop 1 w.counts.used d) ∙ ap (drop 1) (stock nc' h');
          space = λ nc h.
              let nc' = sym same_copy ∙ nc in
              let h' = sym (ap is_read A.mode) ∙ h in
              omega (arith, T.space nc' h', written_on w d nc' h', room_on w d);
          meets = meets_by false quiet ∙ eop_later w.counts.transfers (eop_told n rest) ∙ ap (λ (t : ℕ). eop_from t (eop_told n rest)) (sym (one_more w d false));
        }

-- a service that flows never finds its line dropped
flows_on : (w : World) (d : List ℕ) → flows w.controller ≡ true → flows (transferred w d).controller ≡ true
flows_on w d f = flows_alike w.controller _ (alike_on w d) ∙ f

flows_not : (c : Controller) → memory_to_memory c ≡ false → dropped c ≡ true → flows c ≡ false
unfolding flows
flows_not c nc h = simp (nc, h)

never_dropped : (n eop : ℕ) (d : List ℕ) (w : World) → flows w.controller ≡ true → (run_of n eop d w).reason ≡ Dropped → ⊥
unfolding run_of
never_dropped zero eop d w f =
    stops_both (λ (s : Stop) (l : List ℕ). s.reason ≡ Dropped → ⊥) w d 0 (stop w Limit) [] (λ nc h. never (sym f ∙ flows_not w.controller nc h)) (λ e z. z) (λ g. limit_not)
never_dropped (suc n) eop d w f =
    let next = transferred w d in
    stops_both (λ (s : Stop) (l : List ℕ). s.reason ≡ Dropped → ⊥) w d (suc n) _ [] (λ nc h. never (sym f ∙ flows_not w.controller nc h)) (λ e z. z)
    (λ g. ends_both (λ (s : Stop) (l : List ℕ). s.reason ≡ Dropped → ⊥) w.controller next eop (run_of n eop d next) [] (λ e. ended_not) (λ e h. ended_not) (λ e h. never_dropped n eop d next (flows_on w d f)))

-- All along.
right_first : (n : ℕ) (c : Controller) (m log : List ℕ) → (judged (suc n) c m log).place ≡ 8 * suc n → is_right c m (record_in log) ≡ true
right_first n c m log all = not-false _ (λ e. let z : 0 ≡ 8 * suc n = sym (ap (λ (g : Found). g.place) (judged_wrong n c m log e)) ∙ all in omega arith)

pub sound_run : (n eop : ℕ) (d : List ℕ) (w : World) (log : List ℕ) → Told w d eop n log → (judged n w.controller w.memory log).place ≡ 8 * n → SoundTo w n log (run_of n eop d w) (log_of n eop d w)
unfolding run_of log_of
sound_run zero eop d w log T all = sound_none w d eop log (omega (arith, T.size))
sound_run (suc n) eop d w log T all =
    let c = w.controller in
    let next = transferred w d in
    let e = right_first n c w.memory log all in
    let f = flows_then c w.memory (record_in log) e in
    let met = eqb next.counts.transfers eop in
    let q = bytes_of (record_of c w.memory (get_or d w.counts.used 0) met) in
    let is = state_told_lem w d eop n log T e in
    subst (λ (s : Stop). SoundTo w (suc n) log s (unless (stops w d (suc n)) (q ++ unless (ends c next eop) (log_of n eop d next)))) (sym (run_free w d n f (supplied w d eop n log T e) _))
    (subst (SoundTo w (suc n) log (first (ends c next eop) (run_of n eop d next))) (sym (log_free w d n f (supplied w d eop n log T e) _))
    (ends_both (λ (s : Stop) (k : List ℕ). SoundTo w (suc n) log s (q ++ k)) c next eop (run_of n eop d next) (log_of n eop d next)
    (λ h. last_told w d eop n log T e all _ (is ∙ when_hit _ _ _ h) (over_idle next.controller (reaches_tc c) met))
    (λ h g. last_told w d eop n log T e all _ (is ∙ when_miss _ _ _ h ∙ when_hit _ _ _ g) refl)
    (λ h g.
    let on = is ∙ when_miss _ _ _ h ∙ when_miss _ _ _ g in
    let quiet = sym (met_told w d eop n log T e) ∙ neither_right (reaches_tc c) met h in
    let place = ap (λ (z : Controller). (judged n z (memory_behind c w.memory (record_in log)) (drop 8 log)).place) (sym on) ∙ rest_all w d eop n log T e all in
    more_told w d eop n log T e all on _ _ (never_dropped n eop d next (flows_on w d f))
    (sound_run n eop d next (drop 8 log) (next_told_of w d eop n log T e all quiet) (ap (λ (l : List ℕ). (judged n next.controller l (drop 8 log)).place) (sym (memory_told w d eop n log T e)) ∙ place)))))

-- as the judge says it
eop_first : (e : ℕ) → e ≡ eop_from 0 e
unfolding when
eop_first e = go (eqb e 0) refl
  where
    go : (b : Bool) → eqb e 0 ≡ b → e ≡ when b 0 (0 + e)
    go true h = eqb-true e 0 h
    go false h = omega arith

module _ (c : Controller) (m log r : List ℕ) (free : refusal (run_grounds c m) ≡ 0) (b : Bytes log) (v : verdict (judged_of c m log) ≡ Accepted) (room : length log / 8 ≤ length r) where
  abbrev n : ℕ
  n = length log / 8

  here : (at_all c m log).place ≡ length log
  here = all_right (length log) (at_all c m log) (sym (verdict_is c m log free) ∙ v)

  whole : length log ≡ 8 * n
  whole = let R = reached n c m log in omega (arith, R.place, R.most, here)

  told : Told (start_of c m r) (bytes_told n log) (eop_told n log) n log
  told = record { size = whole; bytes = b; device = λ nc h. refl; space = λ nc h. omega (arith, room); meets = eop_first (eop_told n log) }

  abbrev run : Stop
  run = run_of n (eop_told n log) (bytes_told n log) (start_of c m r)

  S : SoundTo (start_of c m r) n log run (log_of n (eop_told n log) (bytes_told n log) (start_of c m r))
  S = sound_run n (eop_told n log) (bytes_told n log) (start_of c m r) log told (here ∙ whole)

  given : judged_of c m log ≡ logs.says (at_all c m log).controller Accepted (at_all c m log).memory
  given = given_is c m log free ∙ ap (λ (w : Verdict). logs.says (at_all c m log).controller w (at_all c m log).memory) (said_all (length log) (at_all c m log) here)

  pub sound : soundly c m log r
  sound =
      record {
        whole = whole;
        same = S.same;
        left = λ h. given ∙ ap (λ (x : Controller). logs.says x Accepted (at_all c m log).memory) (S.left h).0 ∙ ap (λ (l : List ℕ). logs.says run.world.controller Accepted l) (S.left h).1;
        dropped = λ h.
            let none = S.none h in
            let as_it_was : at_all c m log ≡ found c m 0 (pos 0) = ap (λ (k : ℕ). judged k c m log) none ∙ judged_none c m log in
            (none, given ∙ ap (λ (g : Found). logs.says g.controller Accepted g.memory) as_it_was);
      }
