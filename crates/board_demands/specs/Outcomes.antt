-- Demand 2 for the pair, one outcome: the contract of each public function of board and of each call of c_board asks nothing and admits one
-- outcome only; in the sense of crates/demands (Outcomes), for the functions of these two crates. The number of a chip, `u8::from`, is a
-- trait's: its ghost member says the same.
use Rattle.demands.specs.Outcomes.{Definite, DefiniteLent}
use Rattle.board.proofs.Board.fresh.Kinds as board-fresh-kinds
use Rattle.board.proofs.Board.fresh.Reads as board-fresh-reads
use Rattle.board.proofs.Board.write.Kinds as board-write-kinds
use Rattle.board.proofs.Board.write.Reads as board-write-reads
use Rattle.board.proofs.Board.read.Kinds as board-read-kinds
use Rattle.board.proofs.Board.read.Reads as board-read-reads
use Rattle.board.proofs.Board.pins.Kinds as board-pins-kinds
use Rattle.board.proofs.Board.pins.Reads as board-pins-reads
use Rattle.board.proofs.Board.reset.Kinds as board-reset-kinds
use Rattle.board.proofs.Board.reset.Reads as board-reset-reads
use Rattle.board.proofs.Board.waits.Kinds as board-waits-kinds
use Rattle.board.proofs.Board.waits.Reads as board-waits-reads
use Rattle.board.proofs.Board.grant.Kinds as board-grant-kinds
use Rattle.board.proofs.Board.grant.Reads as board-grant-reads
use Rattle.board.proofs.Board.valid.Kinds as board-valid-kinds
use Rattle.board.proofs.Board.valid.Reads as board-valid-reads
use Rattle.board.proofs.run.Kinds as board-run-kinds
use Rattle.board.proofs.run.Reads as board-run-reads
use Rattle.board.proofs.round.Kinds as board-round-kinds
use Rattle.board.proofs.round.Reads as board-round-reads
use Rattle.board.proofs.write_sheet.Kinds as board-write-sheet-kinds
use Rattle.board.proofs.write_sheet.Reads as board-write-sheet-reads
use Rattle.board.proofs.read_sheet.Kinds as board-read-sheet-kinds
use Rattle.board.proofs.read_sheet.Reads as board-read-sheet-reads
use Rattle.c_board.proofs.am9517_board_version.Kinds as c-version-kinds
use Rattle.c_board.proofs.am9517_board_version.Reads as c-version-reads
use Rattle.c_board.proofs.am9517_board_fresh.Kinds as c-fresh-kinds
use Rattle.c_board.proofs.am9517_board_fresh.Reads as c-fresh-reads
use Rattle.c_board.specs.contracts.am9517_board_check as c-check
use Rattle.c_board.specs.contracts.am9517_board_write as c-write
use Rattle.c_board.specs.contracts.am9517_board_read as read_in_c
use Rattle.c_board.specs.contracts.am9517_board_pins as c-pins
use Rattle.c_board.specs.contracts.am9517_board_reset as c-reset
use Rattle.c_board.specs.contracts.am9517_board_waits as c-waits
use Rattle.c_board.specs.contracts.am9517_board_grant as c-grant
use Rattle.c_board.specs.contracts.am9517_board_entitled as c-entitled
use Rattle.c_board.specs.contracts.am9517_board_run as c-run
use Rattle.c_board.specs.contracts.am9517_board_round as c-round
use Rattle.c_board.specs.contracts.am9517_board_save as c-save
use Rattle.c_board.specs.contracts.am9517_board_load as c-load
use Rattle.c_board.specs.contracts.am9517_board_save2 as c-save2
use Rattle.c_board.specs.contracts.am9517_board_load2 as c-load2

pub record OneOutcomeOfBoard : Type 0 where
  pub fresh : Definite 0 board-fresh-kinds.ps board-fresh-kinds.r board-fresh-reads.Asked board-fresh-reads.Learnt
  pub write : Definite 0 board-write-kinds.ps board-write-kinds.r board-write-reads.Asked board-write-reads.Learnt
  pub read : Definite 0 board-read-kinds.ps board-read-kinds.r board-read-reads.Asked board-read-reads.Learnt
  pub pins : Definite 0 board-pins-kinds.ps board-pins-kinds.r board-pins-reads.Asked board-pins-reads.Learnt
  pub reset : Definite 0 board-reset-kinds.ps board-reset-kinds.r board-reset-reads.Asked board-reset-reads.Learnt
  pub waits : Definite 0 board-waits-kinds.ps board-waits-kinds.r board-waits-reads.Asked board-waits-reads.Learnt
  pub grant : Definite 0 board-grant-kinds.ps board-grant-kinds.r board-grant-reads.Asked board-grant-reads.Learnt
  pub valid : Definite 0 board-valid-kinds.ps board-valid-kinds.r board-valid-reads.Asked board-valid-reads.Learnt
  pub run : Definite 3 board-run-kinds.ps board-run-kinds.r board-run-reads.Asked board-run-reads.Learnt
  pub round : Definite 3 board-round-kinds.ps board-round-kinds.r board-round-reads.Asked board-round-reads.Learnt
  pub write_sheet : Definite 1 board-write-sheet-kinds.ps board-write-sheet-kinds.r board-write-sheet-reads.Asked board-write-sheet-reads.Learnt
  pub read_sheet : Definite 1 board-read-sheet-kinds.ps board-read-sheet-kinds.r board-read-sheet-reads.Asked board-read-sheet-reads.Learnt
  -- the calls for C that are lent no board
  pub c_version : Definite 0 c-version-kinds.ps c-version-kinds.r c-version-reads.Asked c-version-reads.Learnt
  pub c_fresh : Definite 0 c-fresh-kinds.ps c-fresh-kinds.r c-fresh-reads.Asked c-fresh-reads.Learnt

-- The calls that are lent a board.
pub record OneOutcomeOfBoardCalls : Type 2 where
  pub c_check : DefiniteLent c-check.ended (λ M 𝓤 𝓛. c-check.clauses 𝓛)
  pub c_write : DefiniteLent c-write.ended (λ M 𝓤 𝓛. c-write.clauses 𝓛)
  pub c_read : DefiniteLent read_in_c.ended (λ M 𝓤 𝓛. read_in_c.clauses 𝓛)
  pub c_pins : DefiniteLent c-pins.ended (λ M 𝓤 𝓛. c-pins.clauses 𝓛)
  pub c_reset : DefiniteLent c-reset.ended (λ M 𝓤 𝓛. c-reset.clauses 𝓛)
  pub c_waits : DefiniteLent c-waits.ended (λ M 𝓤 𝓛. c-waits.clauses 𝓛)
  pub c_grant : DefiniteLent c-grant.ended (λ M 𝓤 𝓛. c-grant.clauses 𝓛)
  pub c_entitled : DefiniteLent c-entitled.ended (λ M 𝓤 𝓛. c-entitled.clauses 𝓛)
  pub c_run : DefiniteLent c-run.ended (λ M 𝓤 𝓛. c-run.clauses 𝓛)
  pub c_round : DefiniteLent c-round.ended (λ M 𝓤 𝓛. c-round.clauses 𝓛)
  pub c_save : DefiniteLent c-save.ended (λ M 𝓤 𝓛. c-save.clauses 𝓛)
  pub c_load : DefiniteLent c-load.ended (λ M 𝓤 𝓛. c-load.clauses 𝓛)
  pub c_save2 : DefiniteLent c-save2.ended (λ M 𝓤 𝓛. c-save2.clauses 𝓛)
  pub c_load2 : DefiniteLent c-load2.ended (λ M 𝓤 𝓛. c-load2.clauses 𝓛)
