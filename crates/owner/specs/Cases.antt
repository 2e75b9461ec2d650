-- Demand 2, document 01's worked cases, and those of document 02's requests: "P1 to P9 are shown of the rules themselves, as one list under one statement."
use Rattle.std.specs.Prelude.{ℕ, zero, suc, ◌+◌, ◌-◌, ◌≡◌, List, [], ◌∷◌, ◌++◌, length, get_or, set, replicate, Some, Ok}
use Rattle.am9517.specs.Editions.{number_of}
use Rattle.am9517.specs.State.{fresh}
use Rattle.am9517.specs.Fields.{make, put, blank, but, Field, Command, Tc, Mask, Temporary, Pins, Lowest, Edition, Waits}
use Rattle.am9517.specs.Answers.{read_of}
use Rattle.am9517.specs.declared.Channel.{Channel}
use Rattle.am9517.specs.declared.Controller.{Controller}
use Rattle.am9517.specs.declared.Edition.TheVariants.{Am9517A, Intel8237A}
use Rattle.am9517_service.specs.declared.Reason.TheVariants.{Ended}
use Rattle.am9517_service.specs.Counts.{counts}
use Rattle.am9517_service.specs.Answers.{Given, given, ran_of}
use Rattle.am9517_sheet.specs.declared.forms.Form.TheVariants.{One, Two}
use Rattle.am9517_sheet.specs.Sheet.{sheet_of}
use Rattle.demands.specs.Lists.{All}
use Rattle.demands.specs.Operations as op
use Rattle.demands.specs.Operations.{Op, Write, Read, Reset, Grant, Run, Round, SheetWriting, SheetReading, Converting, after_all, said}
use Rattle.demands.specs.Grants.{grants, channels}
use Rattle.demands.specs.Fairness.{Contends}

pub data Expectation : Type 0 where
  -- the grants go to these channels, in this order
  Serves : List ℕ → Expectation
  -- then a read of this register gives this byte
  Reads : ℕ → ℕ → Expectation
  -- then a run with these device bytes, limit 65,536 and this EOP gives this
  Gives : List ℕ → ℕ → Given → Expectation
  -- then this operation says this refusal number, 0 for none
  Says : Op → ℕ → Expectation

-- What is called from a state on, and what is expected; the bytes lent, a memory or a slice, are any list of this size.
pub record Case : Type 0 where
  pub size : ℕ
  pub start : Controller
  pub calls : List ℕ → List Op
  pub expected : List ℕ → Expectation

abbrev pub Meets : Controller → List Op → List ℕ → Expectation → Type 0
Meets s ops m (Serves ns) = channels (grants s ops) ≡ ns
Meets s ops m (Reads r b) = (read_of (after_all s ops) r).answer ≡ Ok (Some b)
Meets s ops m (Gives d eop g) = ran_of (after_all s ops) m d [] 65536 eop ≡ g
Meets s ops m (Says o n) = said (after_all s ops) o ≡ n

abbrev pub Holds : Case → Type 0
Holds c = (m : List ℕ) → length m ≡ c.size → Meets c.start (c.calls m) m (c.expected m)

-- base address, address, base count, count, mode
abbrev pub ch : ℕ → ℕ → ℕ → ℕ → ℕ → Channel
ch ba a bn n mode = record { base_address = ba; address = a; base_count = bn; count = n; mode = mode }

-- idle, with these first two channels and this command, TC bits, mask and temporary byte; line 0 is held
abbrev pub idle_with : Channel → Channel → ℕ → ℕ → ℕ → ℕ → Controller
idle_with c0 c1 command tc mask temporary =
    make (c0 ∷ c1 ∷ blank ∷ blank ∷ [])
    (but (but (but (but (but (but (λ (f : Field). 0) Command command) Tc tc) Mask mask) Temporary temporary) Pins 1) Lowest 3)

-- "ended": the controller, transfers, device bytes used, states and the memory; no room was lent
abbrev pub ends : Controller → ℕ → ℕ → ℕ → List ℕ → Given
ends s transfers used states m =
    given (record { controller = s; answer = Ok Ended; counts = counts transfers used 0 states }) m []

-- channel 0 is granted from idle and run: its registers before and after, command, device bytes, EOP, TC bits and mask after,
-- transfers, states, and the memory after
abbrev pub service : Channel → Channel → ℕ → List ℕ → ℕ → ℕ → ℕ → ℕ → ℕ → (List ℕ → List ℕ) → Case
service was is command device eop tc mask transfers states memory =
    record {
      size = 65536;
      start = idle_with was blank command 0 14 0;
      calls = λ m. Grant ∷ [];
      expected = λ m. Gives device eop (ends (idle_with is blank command tc mask 0) transfers (length device) states (memory m));
    }

-- "P1 idle, count 0, block write, 5Ah at 1234h: one byte, address 1235h, count FFFFh, TC and mask set, 4 states."
abbrev pub p1 : Case
p1 =
    service (ch 0x1234 0x1234 0 0 0x84) (ch 0x1234 0x1235 0 0xFFFF 0x84) 0 (0x5A ∷ []) 0 1 15 1 4
    (λ m. set m 0x1234 0x5A)

-- "P2 up from FFFEh, count 3: FFFE, FFFF, 0000, 0001; 14 states, compressed 10."
abbrev pub p2 : Case
p2 =
    service (ch 0xFFFE 0xFFFE 3 3 0x84) (ch 0xFFFE 2 3 0xFFFF 0x84) 0 (1 ∷ 2 ∷ 3 ∷ 4 ∷ []) 0 1 15 4 14
    (λ m. set (set (set (set m 0xFFFE 1) 0xFFFF 2) 0x0000 3) 0x0001 4)

abbrev pub p2compressed : Case
p2compressed =
    service (ch 0xFFFE 0xFFFE 3 3 0x84) (ch 0xFFFE 2 3 0xFFFF 0x84) 8 (1 ∷ 2 ∷ 3 ∷ 4 ∷ []) 0 1 15 4 10
    (λ m. set (set (set (set m 0xFFFE 1) 0xFFFF 2) 0x0000 3) 0x0001 4)

-- "P3 down from 0001h, count 2: 0001, 0000, FFFF; 11 states."
abbrev pub p3 : Case
p3 =
    service (ch 1 1 2 2 0xA4) (ch 1 0xFFFE 2 0xFFFF 0xA4) 0 (1 ∷ 2 ∷ 3 ∷ []) 0 1 15 3 11
    (λ m. set (set (set m 0x0001 1) 0x0000 2) 0xFFFF 3)

-- the memory with the byte at a stored at b too
abbrev pub copied : ℕ → ℕ → List ℕ → List ℕ
copied a b m = set m b (get_or m a 0)

-- channel 0 is granted in memory-to-memory and run, from its address on to 20h on: its registers before and after, command, channel 1's count;
-- transfers, states, the memory before the last byte is moved, and where that one comes from
abbrev pub copying : Channel → Channel → ℕ → ℕ → ℕ → ℕ → (List ℕ → List ℕ) → ℕ → Case
copying was is command count transfers states before a =
    record {
      size = 65536;
      start = idle_with was (ch 0x20 0x20 count count 0x84) command 0 12 0;
      calls = λ m. Grant ∷ [];
      expected = λ m.
          Gives [] 0
          (ends (idle_with is (ch 0x20 (0x20 + transfers) count 0xFFFF 0x84) command 2 14 (get_or (before m) a 0)) transfers 0 states (copied a (0x20 + transfers - 1) (before m)));
    }

-- "P4 memory-to-memory, channel 1 count 2: three bytes, 24 states."
abbrev pub p4 : Case
p4 = copying (ch 0x10 0x10 0 0 0x80) (ch 0x10 0x13 0 0xFFFD 0x80) 1 2 3 24 (λ m. copied 0x11 0x21 (copied 0x10 0x20 m)) 0x12

-- Document 02, A1: "Channel 0's count steps down with every transfer, also under address hold."
-- Its count and base count 1, autoinitialize, upward from 10h: read are 10h, 11h, 10h, 11h, and it stands where it began
abbrev pub a1_area : Case
a1_area = copying (ch 0x10 0x10 1 1 0x90) (ch 0x10 0x10 1 1 0x90) 1 3 4 32 (λ m. copied 0x10 0x22 (copied 0x11 0x21 (copied 0x10 0x20 m))) 0x11

-- the same under hold, at 10h, with base 18h: read are 10h, 10h, 18h, 18h
abbrev pub a1_held : Case
a1_held = copying (ch 0x18 0x10 1 1 0x90) (ch 0x18 0x18 1 1 0x90) 3 3 4 32 (λ m. copied 0x18 0x22 (copied 0x10 0x21 (copied 0x10 0x20 m))) 0x18

-- count 0 without autoinitialize: FFFFh after one transfer, and neither TC bit 0 nor mask bit 0 is set
abbrev pub a1_count : Case
a1_count = copying (ch 0x10 0x10 0 0 0x80) (ch 0x10 0x11 0 0xFFFF 0x80) 1 0 1 8 (λ m. m) 0x10

-- a case in which a field has this value: what is given begins and ends with it
abbrev pub given_with : Field → ℕ → Expectation → Expectation
given_with f v (Serves ns) = Serves ns
given_with f v (Reads r b) = Reads r b
given_with f v (Gives d eop g) =
    Gives d eop (given (record { controller = put g.ran.controller f v; answer = g.ran.answer; counts = g.ran.counts }) g.memory g.room)
given_with f v (Says o n) = Says o n

abbrev pub with : Field → ℕ → Case → Case
with f v c = record { size = c.size; start = put c.start f v; calls = c.calls; expected = λ m. given_with f v (c.expected m) }

-- a case of an Intel chip
abbrev pub in_intel : Case → Case
in_intel c = with Edition (number_of Intel8237A) c

-- Document 02, A2: "external EOP sets the TC bit of the channel whose count is being run (channel 1 in memory-to-memory)": P7 of an Intel chip, TC set;
abbrev pub a2_eop : Case
a2_eop =
    in_intel
    (service (ch 0 0 9 9 0x84) (ch 0 2 9 7 0x84) 0 (0x11 ∷ 0x12 ∷ []) 2 1 15 2 7
    (λ m. set (set m 0 0x11) 1 0x12))

-- with autoinitialize, TC set, mask kept;
abbrev pub a2_restored : Case
a2_restored =
    in_intel
    (service (ch 0 0 9 9 0x94) (ch 0 0 9 9 0x94) 0 (0x21 ∷ 0x22 ∷ []) 2 1 14 2 7
    (λ m. set (set m 0 0x21) 1 0x22))

-- memory-to-memory, channel 1 count 2, EOP at transfer 2: two bytes, TC bit 1.
abbrev pub a2_copied : Case
a2_copied =
    in_intel
    (record {
      size = 65536;
      start = idle_with (ch 0x10 0x10 9 9 0x80) (ch 0x20 0x20 2 2 0x84) 1 0 12 0;
      calls = λ m. Grant ∷ [];
      expected = λ m.
          Gives [] 2
          (ends (idle_with (ch 0x10 0x12 9 7 0x80) (ch 0x20 0x22 2 0 0x84) 1 2 14 (get_or (copied 0x10 0x20 m) 0x11 0)) 2 0 16 (copied 0x11 0x21 (copied 0x10 0x20 m)));
    })

-- "a write of register E clears all four mask bits": with line 3 held, channel 3 is granted, whatever byte was written
abbrev pub a2_unmasked : Case
a2_unmasked =
    record { size = 0; start = fresh (number_of Intel8237A); calls = λ m. op.Pins 8 ∷ Write 14 0xFF ∷ Grant ∷ []; expected = λ m. Serves (3 ∷ []) }

-- Document 02, A3: "Each transfer costs that many states more, memory-to-memory twice that." P2 with 3 wait states, and compressed: 12 states more;
abbrev pub a3_normal : Case
a3_normal =
    with Waits 3
    (service (ch 0xFFFE 0xFFFE 3 3 0x84) (ch 0xFFFE 2 3 0xFFFF 0x84) 0 (1 ∷ 2 ∷ 3 ∷ 4 ∷ []) 0 1 15 4 26
    (λ m. set (set (set (set m 0xFFFE 1) 0xFFFF 2) 0x0000 3) 0x0001 4))

abbrev pub a3_compressed : Case
a3_compressed =
    with Waits 3
    (service (ch 0xFFFE 0xFFFE 3 3 0x84) (ch 0xFFFE 2 3 0xFFFF 0x84) 8 (1 ∷ 2 ∷ 3 ∷ 4 ∷ []) 0 1 15 4 22
    (λ m. set (set (set (set m 0xFFFE 1) 0xFFFF 2) 0x0000 3) 0x0001 4))

-- the same bytes verified: as many states;
abbrev pub a3_verify : Case
a3_verify = with Waits 3 (service (ch 0xFFFE 0xFFFE 3 3 0x80) (ch 0xFFFE 2 3 0xFFFF 0x80) 0 [] 0 1 15 4 26 (λ m. m))

-- P4 with 3: 18 states more; P1 with all 255.
abbrev pub a3_copied : Case
a3_copied = with Waits 3 (copying (ch 0x10 0x10 0 0 0x80) (ch 0x10 0x13 0 0xFFFD 0x80) 1 2 3 42 (λ m. copied 0x11 0x21 (copied 0x10 0x20 m)) 0x12)

abbrev pub a3_all : Case
a3_all = with Waits 255 (service (ch 0x1234 0x1234 0 0 0x84) (ch 0x1234 0x1235 0 0xFFFF 0x84) 0 (0x5A ∷ []) 0 1 15 1 259 (λ m. set m 0x1234 0x5A))

-- rotating; all four single (verify) with count 9 and unmasked; these lines held: as a driver sets it up
abbrev pub set_up : ℕ → List Op
set_up lines =
    Write 8 0x10
    ∷ Write 11 0x40 ∷ Write 11 0x41 ∷ Write 11 0x42 ∷ Write 11 0x43
    ∷ Write 12 0
    ∷ Write 1 9 ∷ Write 1 0 ∷ Write 3 9 ∷ Write 3 0 ∷ Write 5 9 ∷ Write 5 0 ∷ Write 7 9 ∷ Write 7 0
    ∷ Write 15 0
    ∷ op.Pins lines
    ∷ []

-- so many services, each granted and run
abbrev pub services : List ℕ → ℕ → List Op
services m zero = []
services m (suc k) = Grant ∷ Run m [] [] 65536 0 ∷ services m k

-- "P5 fresh, rotating, four lines held unmasked, single, count 9: grants 0, 1, 2, 3, 0."
abbrev pub p5 : Case
p5 =
    record {
      size = 65536;
      start = fresh (number_of Am9517A);
      calls = λ m. set_up 15 ++ services m 5;
      expected = λ m. Serves (0 ∷ 1 ∷ 2 ∷ 3 ∷ 0 ∷ []);
    }

-- "P6 lowest 1, lines 1 and 3 held: 3, 1, 3."
abbrev pub p6 : Case
p6 =
    record {
      size = 65536;
      start = put (fresh (number_of Am9517A)) Lowest 1;
      calls = λ m. set_up 10 ++ services m 3;
      expected = λ m. Serves (3 ∷ 1 ∷ 3 ∷ []);
    }

-- "P7 count 9, block, EOP at transfer 2: count 7, TC clear, mask set."
abbrev pub p7 : Case
p7 =
    service (ch 0 0 9 9 0x84) (ch 0 2 9 7 0x84) 0 (1 ∷ 2 ∷ []) 2 0 15 2 7
    (λ m. set (set m 0 1) 1 2)

-- "P8 autoinitialize, count 0: count 0 again, TC set, mask kept."
abbrev pub p8 : Case
p8 = service (ch 0x40 0x40 0 0 0x94) (ch 0x40 0x40 0 0 0x94) 0 (7 ∷ []) 0 1 14 1 4 (λ m. set m 0x40 7)

-- "P9 fresh but for command 40h, pins 0: status F0h."
abbrev pub p9 : Case
p9 = record { size = 65536; start = put (fresh (number_of Am9517A)) Command 0x40; calls = λ m. []; expected = λ m. Reads 8 0xF0 }

-- "Count FFFFh up: 65,536 transfers; 196,864 states from 0000h, 196,865 from 0001h": block, verify
abbrev pub whole_from0 : Case
whole_from0 = service (ch 0 0 0xFFFF 0xFFFF 0x80) (ch 0 0 0xFFFF 0xFFFF 0x80) 0 [] 0 1 15 65536 196864 (λ m. m)

abbrev pub whole_from1 : Case
whole_from1 = service (ch 1 1 0xFFFF 0xFFFF 0x80) (ch 1 1 0xFFFF 0xFFFF 0x80) 0 [] 0 1 15 65536 196865 (λ m. m)

-- an operation called in a state, in a fresh one of this edition, and the number it says
abbrev pub called_from : Controller → ℕ → (List ℕ → Op) → ℕ → Case
called_from s size o n = record { size = size; start = s; calls = λ m. []; expected = λ m. Says (o m) n }

abbrev pub called_in : ℕ → ℕ → (List ℕ → Op) → ℕ → Case
called_in edition = called_from (fresh edition)

abbrev pub called : ℕ → (List ℕ → Op) → ℕ → Case
called = called_in (number_of Am9517A)

-- an operation called in an open service, line 0 held
abbrev pub running : ℕ → (List ℕ → Op) → ℕ → Case
running size o n =
    record { size = size; start = idle_with (ch 0 0 0 0 0x80) blank 0 0 14 0; calls = λ m. Grant ∷ []; expected = λ m. Says (o m) n }

-- "P marks the proved set."
abbrev pub proved : List Case
proved = p1 ∷ p2 ∷ p2compressed ∷ p3 ∷ p4 ∷ p5 ∷ p6 ∷ p7 ∷ p8 ∷ p9 ∷ []

-- Beside P1, P2, P4 and P7, for document 02's A1, A2 and A3.
abbrev pub requested : List Case
requested = a1_area ∷ a1_held ∷ a1_count ∷ a2_eop ∷ a2_restored ∷ a2_copied ∷ a2_unmasked ∷ a3_normal ∷ a3_compressed ∷ a3_verify ∷ a3_copied ∷ a3_all ∷ []

abbrev pub whole : List Case
whole = whole_from0 ∷ whole_from1 ∷ []

-- "Write of register 15 accepted, of 16 refused (2), read of 15 refused (4); k 4,096 and 4,097; slice 55 and 56; memory 65,535, 65,536
-- and 65,537": slices for writing and for reading, memories for a run and for a round
abbrev pub limits : List Case
limits =
    called 0 (λ m. Write 15 0) 0
    ∷ called 0 (λ m. Write 16 0) 2
    ∷ called 0 (λ m. Read 15) 4
    ∷ called 65536 (λ m. Round m [] [] 4096) 0
    ∷ called 65536 (λ m. Round m [] [] 4097) 2
    ∷ called 55 (λ m. SheetWriting One m) 9
    ∷ called 56 (λ m. SheetWriting One m) 0
    ∷ called 55 (λ m. SheetReading One m) 9
    ∷ called 0 (λ m. SheetReading One (sheet_of One (fresh (number_of Am9517A)))) 0
    ∷ running 65535 (λ m. Run m [] [] 65536 0) 7
    ∷ running 65536 (λ m. Run m [] [] 65536 0) 0
    ∷ running 65537 (λ m. Run m [] [] 65536 0) 7
    ∷ called 65535 (λ m. Round m [] [] 4096) 7
    ∷ called 65537 (λ m. Round m [] [] 4096) 7
    ∷ []

-- A2: "Refusal 4 no longer covers that write there"; "writing such a state is refusal 15, after 1 and 9"; no edition over 1
abbrev pub edition_limits : List Case
edition_limits =
    called 0 (λ m. Write 14 0) 4
    ∷ called_in (number_of Intel8237A) 0 (λ m. Write 14 0) 0
    ∷ called_in (number_of Intel8237A) 0 (λ m. Read 14) 4
    ∷ called_in (number_of Intel8237A) 55 (λ m. SheetWriting One m) 9
    ∷ called_in (number_of Intel8237A) 56 (λ m. SheetWriting One m) 15
    ∷ called_in 2 55 (λ m. SheetWriting One m) 1
    ∷ called_in 2 0 (λ m. Reset) 1
    ∷ []

-- a fresh Am9517A but for one wait state
abbrev pub slowed : Controller
slowed = put (fresh (number_of Am9517A)) Waits 1

-- and an Intel chip with one
abbrev pub slow_intel : Controller
slow_intel = put slowed Edition (number_of Intel8237A)

-- A3: "set by its own call when idle (refusals 1, 3)"; "A state with waits can't go into form 1: refusal 15", after 9; an Intel chip's, too
abbrev pub wait_limits : List Case
wait_limits =
    called 0 (λ m. op.Waits 255) 0
    ∷ running 0 (λ m. op.Waits 0) 3
    ∷ called_in 2 0 (λ m. op.Waits 0) 1
    ∷ called_from slowed 55 (λ m. SheetWriting One m) 9
    ∷ called_from slowed 56 (λ m. SheetWriting One m) 15
    ∷ called_from slow_intel 56 (λ m. SheetWriting One m) 15
    ∷ []

-- A5: "Reading and writing form 2 keep 01's order, with 58 in refusal 9"; "the order is 9 (source or target too short), 10 to 14, then 15"
abbrev pub form_limits : List Case
form_limits =
    called_from slow_intel 57 (λ m. SheetWriting Two m) 9
    ∷ called_from slow_intel 58 (λ m. SheetWriting Two m) 0
    ∷ called_in 2 57 (λ m. SheetWriting Two m) 1
    ∷ called 57 (λ m. SheetReading Two m) 9
    ∷ called 0 (λ m. SheetReading Two (sheet_of Two slow_intel)) 0
    ∷ called 0 (λ m. SheetReading Two (sheet_of Two (put slow_intel Edition 2))) 14
    ∷ called 57 (λ m. Converting Two (sheet_of One (fresh (number_of Am9517A))) m) 9
    ∷ called 58 (λ m. Converting Two (sheet_of One (fresh (number_of Am9517A))) m) 0
    ∷ called 58 (λ m. Converting Two (replicate 55 0) m) 9
    ∷ called 58 (λ m. Converting Two (sheet_of Two slowed) m) 11
    ∷ called 55 (λ m. Converting One (sheet_of Two slowed) m) 9
    ∷ called 56 (λ m. Converting One (replicate 57 0) m) 9
    ∷ called 56 (λ m. Converting One (sheet_of Two (put slowed Edition 2)) m) 14
    ∷ called 56 (λ m. Converting One (sheet_of Two slowed) m) 15
    ∷ called 56 (λ m. Converting One (sheet_of Two (fresh (number_of Am9517A))) m) 0
    ∷ []

abbrev pub cases : List Case
cases = proved ++ (requested ++ (whole ++ (limits ++ (edition_limits ++ (wait_limits ++ form_limits)))))

-- Every case holds.
abbrev pub WorkedCases : Type 0
WorkedCases = All Holds cases

-- Demand 3's numbers can't be better: in P5 channel 3 contends at each grant, waits for three others, and is led by one.
abbrev pub Tight : Type 0
Tight =
    (m : List ℕ) → length m ≡ p5.size
    → All (Contends 3) (grants p5.start (p5.calls m)) × (channels (grants p5.start (p5.calls m)) ≡ 0 ∷ 1 ∷ 2 ∷ 3 ∷ 0 ∷ [])
