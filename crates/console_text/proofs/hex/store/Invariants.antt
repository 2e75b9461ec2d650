use Rattle.console_text.specs.Hex.{bytes_in}
use Rattle.console_text.specs.Text.{page, put}
use Rattle.std.proofs.Common.{◌≡◌}
use Rattle.std.specs.Slice.Iter.{chunks_exact_rest, chunks_exact_size}
use Rattle.console_text.proofs.hex.store.Given as goal

abbrev pub invariant-loop-two : goal.invariant-loop-two
invariant-loop-two l = (put (page l.out l.next) (bytes_in (chunks_exact_rest l.two-iterator)) ≡ put (page l.initial.out l.at) (bytes_in l.s)) × (chunks_exact_size l.two-iterator ≡ 2)
