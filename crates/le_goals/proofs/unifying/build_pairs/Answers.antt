use Rattle.std.proofs.Common.{◌≡◌, ◌+◌, ◌-◌, ◌<◌, length, subst, arith}
use Rattle.le_goals.proofs.Pairings.{PairedFrom, paired-none, paired-more, later-there, extends-then, least-past, least-low}
use Rattle.le_goals.proofs.unifying.build_pairs.Goals as goal

pub pairs-init : goal.pairs-init
pairs-init c = record {
  paired = paired-none c.args.store.now c.args.pairs.now.items c.args.left c.args.lefts.now c.args.right c.args.rights.now c.min-at.result c.requires.none (least-past (length c.args.lefts.now) (length c.args.rights.now) c.min-at.result c.min-at.ensures);
  low_left = (least-low (length c.args.lefts.now) (length c.args.rights.now) c.min-at.result c.min-at.ensures).0;
  low_right = (least-low (length c.args.lefts.now) (length c.args.rights.now) c.min-at.result c.min-at.ensures).1;
}

pub build-requires : goal.build-requires
build-requires c =
    let low : c.pairs.at - 1 < length c.args.lefts.now = omega (arith, c.pairs.invariant.low_left, c.pairs-test.true) in
    later-there c.args.store.now c.pairs.store c.pairs.invariant.paired.extends c.args.left c.args.lefts.now (c.pairs.at - 1) c.index-lefts-at.result _ c.requires.lefts low c.index-lefts-at.is

pub build-requires-in-pairs : goal.build-requires-in-pairs
build-requires-in-pairs c =
    let low : c.pairs.at - 1 < length c.args.rights.now = omega (arith, c.pairs.invariant.low_right, c.pairs-test.true) in
    later-there c.args.store.now c.build.new.store (extends-then c.args.store.now c.pairs.store c.build.new.store c.pairs.invariant.paired.extends c.build.ensures.extends) c.args.right c.args.rights.now (c.pairs.at - 1) c.index-rights-at.result _ c.requires.rights low c.index-rights-at.is

pub pairs-preserved : goal.pairs-preserved
pairs-preserved c =
    let low_left : c.pairs.at - 1 < length c.args.lefts.now = omega (arith, c.pairs.invariant.low_left, c.pairs-test.true) in
    let low_right : c.pairs.at - 1 < length c.args.rights.now = omega (arith, c.pairs.invariant.low_right, c.pairs-test.true) in
    let back : c.pairs.at ≡ (c.pairs.at - 1) + 1 = omega (arith, c.pairs-test.true) in
    let paired : PairedFrom c.args.store.now c.pairs.store c.pairs.pairs.items c.args.left c.args.lefts.now c.args.right c.args.rights.now ((c.pairs.at - 1) + 1) =
    subst (λ n. PairedFrom c.args.store.now c.pairs.store c.pairs.pairs.items c.args.left c.args.lefts.now c.args.right c.args.rights.now n) back c.pairs.invariant.paired in
    record {
      paired = paired-more c.args.store.now c.pairs.store c.build.new.store c.build-in-pairs.new.store c.pairs.pairs.items c.push.new.self.items c.args.left c.args.lefts.now c.args.right c.args.rights.now (c.pairs.at - 1) c.index-lefts-at.result c.index-rights-at.result _ _ c.in_ok-first.first c.in_ok-second.second
          paired c.requires.lefts c.requires.rights low_left low_right c.index-lefts-at.is c.index-rights-at.is c.build.ensures.extends c.in_ok-first.ensures.cell c.build-in-pairs.ensures.extends c.in_ok-second.ensures.cell c.in_ok-push.ensures.items;
      low_left = omega (arith, c.pairs.invariant.low_left);
      low_right = omega (arith, c.pairs.invariant.low_right);
    }
