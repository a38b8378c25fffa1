use Rattle.std.proofs.Common.{◌<◌, length, arith}
use Rattle.quota.proofs.Turns.{marking-start, size_is, whole-left, marking-turn, marking-end}
use Rattle.quota.proofs.marks_into.Goals as goal

pub loop-size-init : goal.loop-size-init
loop-size-init c = marking-start _ _

pub share-share-requires : goal.share-share-requires
share-share-requires c =
    let inside : c.loop-size.size-index < length c.args.sizes.now = omega (arith, c.loop-size.invariant.places.places) in
    omega (arith, size_is c.requires c.loop-size.invariant inside, c.requires.sized.small c.loop-size.size-index)

pub overflow_sub-left : goal.overflow_sub-left
overflow_sub-left c =
    let inside : c.loop-size.size-index < length c.args.sizes.now = omega (arith, c.loop-size.invariant.places.places) in
    whole-left c.requires c.loop-size.invariant inside _ _ c.share-share.ensures.0 c.share-share.ensures.1

pub loop-size-preserved : goal.loop-size-preserved
loop-size-preserved c =
    let inside : c.loop-size.size-index < length c.args.sizes.now = omega (arith, c.loop-size.invariant.places.places) in
    rw c.mark_of.ensures
    (marking-turn c.requires c.loop-size.invariant inside _ _ c.share-share.ensures.0 c.share-share.ensures.1)

pub returns : goal.returns
returns c = marking-end c.requires c.loop-size.invariant (omega (arith, c.loop-size.invariant.places.places))
