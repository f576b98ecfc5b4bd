-- The theorem of each claim of specs/Claims.antt.
use mathlib.Core.Path.{sym, ◌∙◌}
use native.Mathlib.Omega.{arith}
use lib.ListN.{length}
use Rattle.capture.specs.Frames.{start}
use Rattle.capture.specs.Claims.{FramesAreAll, NextIsInside, SittingsAreOne, NumbersInOrder, BlocksAreWhole}
use Rattle.kernel.proofs.Theorems.{stored_once}
use Rattle.capture.specs.Claims.{RoomIsUsed, LastLeavesNone, AdvancedOnce, BlockLaidOnce, HoldingFollows}
use Rattle.capture.proofs.Frames.{all_frames, next_inside, sittings, numbered}
use Rattle.capture.proofs.Steps.{held_follows}
use Rattle.capture.proofs.Blocks.{none_behind_last, whole}

pub frames_are_all : FramesAreAll
frames_are_all s room more c = all_frames s room more (length s) c (omega arith)

pub next_is_inside : NextIsInside
next_is_inside = next_inside

pub sittings_are_one : SittingsAreOne
sittings_are_one s room k c = sittings s room k c

pub numbers_in_order : NumbersInOrder
numbers_in_order s room = numbered s room (length s) start (omega arith)

pub room_is_used : RoomIsUsed
room_is_used n = (λ h. omega arith, λ h. omega arith)

pub last_leaves_none : LastLeavesNone
last_leaves_none S w size s room x c = none_behind_last w size s room x c

pub blocks_are_whole : BlocksAreWhole
blocks_are_whole S w size s room x c h = whole w size s room x c h

pub advanced_once : AdvancedOnce
advanced_once s mark map map₁ map₂ table table₁ table₂ x y o p q =
    let a = p o.point o.is in
    let b = q o.point o.is in
    (a.0 ∙ sym b.0, a.1 ∙ sym b.1, a.2 ∙ sym b.2)

pub holding_follows : HoldingFollows
holding_follows = held_follows

pub block_laid_once : BlockLaidOnce
block_laid_once R S w IsOf s from out out₁ out₂ x y one o p q =
    let a = p o.point o.state o.is in
    let b = q o.point o.state o.is in
    let e = one _ _ x.reached y.reached a.reached b.reached in
    let f = a.bytes ∙ sym b.bytes in
    let g = a.ended ∙ sym b.ended in
    let c = stored_once _ _ _ _ _ _ x.bytes y.bytes a.stored b.stored in
    (λ i. record { reached = e i; bytes = f i; ended = g i }, c.1)
