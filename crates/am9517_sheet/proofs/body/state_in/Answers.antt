use Rattle.am9517_sheet.specs.Form.{channels_at}
use Rattle.am9517_sheet.specs.Body.{state_of}
use Rattle.words.proofs.PartLaws.{tail_all}
use Rattle.am9517_sheet.proofs.body.state_in.Goals as goal

pub returns : goal.returns
unfolding state_of
returns c =
    simp (c.front_in-edition.ensures, c.channel_at-first.ensures, c.channel_at-second.ensures, c.channel_at-third.ensures, c.channel_at-fourth.ensures, c.channels_at-at.ensures, tail_all (channels_at c.args.form) c.args.b.now)
