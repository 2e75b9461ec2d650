use Rattle.am9517_sheet.proofs.BodyLaws.{body_fits}
use Rattle.am9517_sheet.specs.Form.{body_size}
use lib.Seq.{length-take-le}
use native.Mathlib.Omega.{arith}
use Rattle.am9517_sheet.proofs.trailer.trailer_of.Goals as goal

pub overflow_cast-size : goal.overflow_cast-size
overflow_cast-size c = omega (arith, c.body_size-size.ensures, body_fits c.before.before.before.args.form)

pub returns : goal.returns
returns c =
    let at-low-byte3 = c.before in let at-high-byte2 = at-low-byte3.before in let at-low-byte2 = at-high-byte2.before in
    let at-high-byte = at-low-byte2.before in let at-low-byte = at-high-byte.before in let at_sum = at-low-byte.before in
    let at-body-size = at_sum.before in let at-number = at-body-size.before in let entry = at-number.before.before in
    simp (c.high_byte-3.ensures, at-low-byte3.low_byte-3.ensures, at-high-byte2.high_byte-2.ensures, at-low-byte2.low_byte-2.ensures, at-high-byte.high_byte.ensures, at-low-byte.low_byte.ensures, at_sum.sum-total.ensures, at-body-size.body_size-size.ensures, at-number.number-said.ensures, length-take-le (body_size entry.args.form) entry.args.b.now entry.requires)
