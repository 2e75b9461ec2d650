use Rattle.am9517_sheet.proofs.BodyLaws.{body_stored}
use Rattle.am9517_sheet.proofs.body.store_body.Goals as goal

pub returns : goal.returns
returns c =
    let at_store = c.before.before in let at-store-channels = at_store.before.before.before.before.before in
    let at-store-front = at-store-channels.before.before.before.before in let at-field-bytes = at-store-front.before.before in
    let entry = at-field-bytes.before.before in
    body_stored entry.args.form entry.args.c entry.args.out.now _ _ _ entry.args.start _ _ entry.requires at-store-front.store_front-at.ensures.0 at-store-front.store_front-at.ensures.1 at-store-channels.store_channels-at.ensures.0 at-store-channels.store_channels-at.ensures.1 (rw at-field-bytes.field_bytes-fields.ensures at at_store.store.ensures.0)
