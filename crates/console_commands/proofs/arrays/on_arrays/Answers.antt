use Rattle.console_commands.specs.Doings.{arrays_do}
use Rattle.console_commands.proofs.HoldingLaws.{stays_so, lent_so, poked_so, queued_so, roomed_so, stays_standing, lent_standing, queued_standing, roomed_standing}
use mathlib.Core.Path.{refl}
use Rattle.console_commands.proofs.arrays.on_arrays.Goals as goal

pub returns-in-Memory : goal.returns-in-Memory
unfolding arrays_do
returns-in-Memory c =
    let s = c.args in (simp c.in-Memory.is (lent_so s.console _ s.memory.now s.queue.now s.room.now _ _ _ _ c.lent.ensures.0 c.lent.ensures.1), lent_standing s.console _ _ _ c.requires _ _ c.lent.ensures.0)

pub returns-in-Poke : goal.returns-in-Poke
unfolding arrays_do
returns-in-Poke c =
    let s = c.args in (simp c.in-Poke.is (poked_so s.console _ s.memory.now s.queue.now s.room.now _ _ _ _ c.poke-next.ensures), c.requires)

pub returns-in-Peek : goal.returns-in-Peek
unfolding arrays_do
returns-in-Peek c =
    let s = c.args in (simp c.in-Peek.is (stays_so s.console _ s.memory.now s.queue.now s.room.now _ _ _ refl c.peek-next.ensures), c.requires)

pub returns-in-Feed : goal.returns-in-Feed
unfolding arrays_do
returns-in-Feed c =
    let s = c.args in (simp c.in-Feed.is (queued_so s.console _ s.memory.now s.queue.now s.room.now _ _ _ _ c.fed.ensures.0 c.fed.ensures.1), queued_standing s.console _ _ _ c.requires _ _ _ _ c.fed.auto.queue c.fed.ensures.0 c.fed.ensures.1)

pub returns-in-Fill : goal.returns-in-Fill
unfolding arrays_do
returns-in-Fill c =
    let s = c.args in (simp c.in-Fill.is (queued_so s.console _ s.memory.now s.queue.now s.room.now _ _ _ _ c.filled.ensures.0 c.filled.ensures.1), queued_standing s.console _ _ _ c.requires _ _ _ _ c.filled.auto.queue c.filled.ensures.0 c.filled.ensures.1)

pub returns-in-Room : goal.returns-in-Room
unfolding arrays_do
returns-in-Room c =
    let s = c.args in (simp c.in-Room.is (roomed_so s.console _ s.memory.now s.queue.now s.room.now _ _ _ _ _ c.roomed.ensures.0 c.roomed.ensures.1), roomed_standing s.console _ _ _ c.requires _ _ _ _ _ c.roomed.auto.room c.roomed.ensures.0 c.roomed.ensures.1)

pub returns-in-Out : goal.returns-in-Out
unfolding arrays_do
returns-in-Out c =
    let s = c.args in (simp c.in-Out.is (stays_so s.console _ s.memory.now s.queue.now s.room.now _ _ _ c.room_shown.ensures.0 c.room_shown.ensures.1), stays_standing s.console _ _ _ c.requires _ c.room_shown.ensures.0)

pub returns-in-Dump : goal.returns-in-Dump
unfolding arrays_do
returns-in-Dump c =
    let s = c.args in (simp c.in-Dump.is (stays_so s.console _ s.memory.now s.queue.now s.room.now _ _ _ refl c.dump-next.ensures), c.requires)

pub returns-in-Queue : goal.returns-in-Queue
unfolding arrays_do
returns-in-Queue c =
    let s = c.args in (simp c.in-Queue.is (stays_so s.console _ s.memory.now s.queue.now s.room.now _ _ _ c.queue_shown.ensures.0 c.queue_shown.ensures.1), stays_standing s.console _ _ _ c.requires _ c.queue_shown.ensures.0)

pub returns-in-Empty : goal.returns-in-Empty
unfolding arrays_do
returns-in-Empty c =
    let s = c.args in (simp c.in-Empty.is (queued_so s.console _ s.memory.now s.queue.now s.room.now _ _ _ _ c.emptied.ensures.0 (c.emptied.ensures.1 s.queue.now)), queued_standing s.console _ _ _ c.requires _ s.queue.now _ _ refl c.emptied.ensures.0 (c.emptied.ensures.1 s.queue.now))
