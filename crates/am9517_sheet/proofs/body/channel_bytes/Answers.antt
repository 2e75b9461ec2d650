use Rattle.am9517_sheet.proofs.body.channel_bytes.Goals as goal

pub returns : goal.returns
returns c =
    let at-low-byte4 = c.before in let at-high-byte3 = at-low-byte4.before in let at-low-byte3 = at-high-byte3.before in
    let at-high-byte2 = at-low-byte3.before in let at-low-byte2 = at-high-byte2.before in let at-high-byte = at-low-byte2.before in
    let at-low-byte = at-high-byte.before in
    simp (c.high_byte-4.ensures, at-low-byte4.low_byte-4.ensures, at-high-byte3.high_byte-3.ensures, at-low-byte3.low_byte-3.ensures, at-high-byte2.high_byte-2.ensures, at-low-byte2.low_byte-2.ensures, at-high-byte.high_byte.ensures, at-low-byte.low_byte.ensures)
