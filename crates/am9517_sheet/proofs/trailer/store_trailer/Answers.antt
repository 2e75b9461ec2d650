use Rattle.words.proofs.PartLaws.{tail_all}
use Rattle.am9517_sheet.proofs.trailer.store_trailer.Goals as goal

pub returns : goal.returns
returns c =
    let at_store = c.before.before in let at-body-size = at_store.before.before in let at-trailer-of = at-body-size.before.before in
    let entry = at-trailer-of.before.before.before.before in
    rw (at_store.store.ensures.0, at-trailer-of.trailer_of-trailer.ensures, tail_all entry.args.start entry.args.out.now, at-body-size.body_size.ensures)
