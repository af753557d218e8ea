-- Without a floor nothing is below it; the last of so many as are wanted, all of one node at a,
-- is a floor for the pairs of all nodes.
use native.Mathlib.Omega.{arith}
use Rattle.trials.specs.Ranked.{length_part, part_at}
use Rattle.trials.proofs.Falling.{all_numbers, trial_numbers}
use Rattle.trials.proofs.Reaching.{fair_kept, fair_none, falling_none}
use Rattle.trials.proofs.ranked.floor_of.Goals as goal

pub returns-then-near-lt-FEW : goal.returns-then-near-lt-FEW
returns-then-near-lt-FEW c = record { fair = fair_none _ _; neutral = tt }

pub returns-then-not-all_neutral : goal.returns-then-not-all_neutral
returns-then-not-all_neutral c = record { fair = fair_none _ _; neutral = tt }

pub length-ca-requires : goal.length-ca-requires
length-ca-requires c = let p = c.requires.far in (p.0.within _ c.steepest-i.ensures, p.2.a_within)

pub with_node-k-requires : goal.with_node-k-requires
with_node-k-requires c =
    let p = c.requires.far in record {
      count_le_pairs = (omega arith, c.requires.pairs_le_room, falling_none _ _);
      far = (
        p.1,
        record {
          a_within = p.2.a_within;
          b_within = p.2.b_within;
          c_within = p.0.within _ c.steepest-i.ensures;
          edge = p.2.edge;
          side = c.length-ca.ensures.1;
        },
      );
    }

pub returns-then-k-y : goal.returns-then-k-y
returns-then-k-y c = record { fair = fair_none _ _; neutral = tt }

pub returns-then-k-eq0 : goal.returns-then-k-eq0
returns-then-k-eq0 c = record { fair = fair_none _ _; neutral = tt }

pub returns : goal.returns
returns c =
    let p = c.requires.far in
    let g = c.with_node-k.ensures in record {
      fair = fair_kept _ _ _ _ c.steepest-i.result _ _ _ _ _ (omega (arith, length_part c.args.w.now c.args.near.at c.args.near.count p.0.stands, c.steepest-i.ensures))
          (λ i. all_numbers _ _ (trial_numbers _ _ _ _ i)) (omega (arith, g.few, c.if-k-y.false)) (omega (arith, c.if-k-eq0.false))
          (part_at c.args.w.now c.args.near.at c.args.near.count c.steepest-i.result c.steepest-i.ensures) g;
      neutral = c.all_neutral.ensures c.if-not-all_neutral.false;
    }
