use Rattle.am9517_sheet.proofs.BodyLaws.{channels_stored}
use native.Mathlib.Omega.{arith}
use Rattle.am9517_sheet.proofs.body.store_channels.Goals as goal

pub returns : goal.returns
returns c =
    let at-store-channel4 = c.before.before in let at-store-channel3 = at-store-channel4.before.before.before.before.before in
    let at-store-channel2 = at-store-channel3.before.before.before.before.before in
    let at-store-channel = at-store-channel2.before.before.before.before.before in
    let entry = at-store-channel.before.before.before.before in
    (channels_stored entry.args.c entry.args.out.now _ _ _ _ entry.args.at _ _ _ entry.requires at-store-channel.store_channel-at.ensures.0 at-store-channel.store_channel-at.ensures.1 at-store-channel2.store_channel-at-2.ensures.0 at-store-channel2.store_channel-at-2.ensures.1 at-store-channel3.store_channel-at-3.ensures.0 at-store-channel3.store_channel-at-3.ensures.1 at-store-channel4.store_channel.ensures.0, omega (arith, at-store-channel.store_channel-at.ensures.1, at-store-channel2.store_channel-at-2.ensures.1, at-store-channel3.store_channel-at-3.ensures.1, at-store-channel4.store_channel.ensures.1))
