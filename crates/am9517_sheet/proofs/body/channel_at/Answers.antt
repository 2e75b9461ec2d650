use Rattle.am9517_sheet.proofs.body.channel_at.Goals as goal

pub returns : goal.returns
returns c = cc
