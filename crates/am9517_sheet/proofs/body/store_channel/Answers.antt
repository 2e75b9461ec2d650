use Rattle.am9517_sheet.proofs.body.store_channel.Goals as goal

pub returns : goal.returns
returns c = rw c.before.before.before.before.before.channel_bytes-bytes.ensures at c.before.before.store.ensures
