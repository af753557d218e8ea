-- What `settle` asks of its callees and makes of what they give.
use Rattle.std.specs.Prelude.{◌≡◌, ◌+◌, ◌*◌, ◌∷◌}
use Rattle.laws.specs.Kit.{refl, sym, ◌∙◌, ap, subst, ℕ, List}
use Rattle.laws.specs.Numbers.{clash}
use Rattle.definition.specs.Counts.{◌⊞◌, Refusal, Placement, Shape, Recovery, Region, OddRegion, refused_by, Want, of_points, of_slots, of_trace}
use Rattle.definition.specs.Plane.{Edge}
use Rattle.definition.specs.Cells.{Quad}
use Rattle.laws.specs.Frames.{only_refl}
use Rattle.cells.specs.Layout.{refused_at}
use Rattle.blocked_edges.specs.Records.{size}
use Rattle.blocked_edges.specs.Blocks.{Blocks, with_edge}
use Rattle.outcomes.specs.Ends.{kind_of, shortage_of, end_of, end_for}
use Rattle.outcomes.specs.declared.Shortage.{Shortage}
use Rattle.outcomes.specs.declared.Shortage.TheVariants.{NoPoint, NoSlots, NoTrace}
use Rattle.outcomes.specs.declared.Kind.{Kind}
use Rattle.outcomes.specs.declared.Kind.TheVariants as kinds
use Rattle.outcomes.specs.declared.Placed.{Placed}
use Rattle.outcomes.specs.declared.Tried.{Tried}
use Rattle.outcomes.specs.declared.End.{End}
use Rattle.outcomes.specs.declared.End.TheVariants as ends
use Rattle.settling.specs.declared.standing.Standing.{Standing}
use Rattle.settling.specs.declared.standing.Step.{Step}
use Rattle.settling.specs.declared.standing.Going.TheVariants as goings
use Rattle.settling.specs.Standings.{counts_of, TriedMore, CountsMore}
use Rattle.settling.specs.Settles.{KeptSoFar, CanPut, PutTo, CanRecord, RecordTo, CanSettle, SettleTo, Placing, Ending, want_kind}

-- ---- an end is of one sort

pub placed_refused : (e : End) (z : Placed) (why : Refusal) → e ≡ ends.Placed z → e ≡ end_of why → ⊥
unfolding end_of
placed_refused e z why a b = clash cc

pub placed_ended : (e : End) (z : Placed) (wt : Want) → e ≡ ends.Placed z → e ≡ end_for wt → ⊥
unfolding end_for
placed_ended e z wt a b = clash cc

pub refused_ended : (e : End) (why : Refusal) (wt : Want) → e ≡ end_of why → e ≡ end_for wt → ⊥
unfolding end_of end_for
refused_ended e why wt a b = clash cc

-- and says what it says
pub same_placed : (e : End) (y z : Placed) → e ≡ ends.Placed y → e ≡ ends.Placed z → y ≡ z
same_placed e y z a b = cc

pub same_kind : (e : End) (kind : Kind) (why : Refusal) → e ≡ ends.Refused kind → e ≡ end_of why → kind ≡ kind_of why
unfolding end_of
same_kind e kind why a b = cc

pub same_short : (e : End) (short : Shortage) (wt : Want) → e ≡ ends.Short short → e ≡ end_for wt → short ≡ shortage_of wt
unfolding end_for
same_short e short wt a b = cc

-- each kind stands for a refusal, and each shortage for a want
named : (kind : Kind) → (why : Refusal) × (kind ≡ kind_of why)
named kinds.Placement = (Placement, refl)
named kinds.InvalidQuad = (Shape, refl)
named kinds.Recovery = (Recovery, refl)
named kinds.Region = (Region, refl)
named kinds.OddRegion = (OddRegion, refl)

wanted : (short : Shortage) → (wt : Want) × (short ≡ shortage_of wt)
wanted NoPoint = (of_points, refl)
wanted NoSlots = (of_slots, refl)
wanted NoTrace = (of_trace, refl)

refused_as : (e : End) (kind : Kind) (why : Refusal) → e ≡ ends.Refused kind → kind ≡ kind_of why → e ≡ end_of why
unfolding end_of
refused_as e kind why a b = a ∙ ap ends.Refused b

short_as : (e : End) (short : Shortage) (wt : Want) → e ≡ ends.Short short → short ≡ shortage_of wt → e ≡ end_for wt
unfolding end_for
short_as e short wt a b = a ∙ ap ends.Short b

module _ (w quads : List ℕ) (s p : ℕ) (g : Standing) (t : Tried) (u v : ℕ) (ever bl : List Edge) (qs : List Quad) (old : List ℕ) (can : CanSettle w quads s p g t u v ever bl qs old)
    (h : Standing) (tm : TriedMore g t.counters t.at t.inserted t.trials h) where
  -- the standing after the attempt keeps its place
  so_far : KeptSoFar w quads s p h ever bl qs old
  so_far = record { blocks = can.so_far.blocks; records = tm.records ∙ can.so_far.records; number = tm.quads ∙ can.so_far.number; text = can.so_far.text }

  -- ---- a quad

  module _ (z : Placed) (e : t.end ≡ ends.Placed z) where
    pub can_put : CanPut w quads s p h z u v ever bl qs old
    can_put = record { small_slots = can.small_slots; small_points = can.small_points; so_far = so_far; fits = can.placed z e }

    pub put_settles : (w' quads' : List ℕ) (r : Step) → PutTo w w' quads' s p h z ever bl qs old r
        → SettleTo w w' quads' s p g t u v ever bl qs old r
    put_settles w' quads' r to =
        record {
          kept = to.kept;
          placed = λ y f. subst (λ (k : Placed). Placing w' quads' s p g t k ever bl qs old r) (same_placed t.end z y e f) (record {
            kind = to.kind;
            counted = record { counters = to.standing.counters ∙ tm.counters; counts = λ a. to.standing.counts ∙ tm.counts a t.flips; words = to.standing.words ∙ tm.words };
            so_far = to.so_far;
          });
          refused = λ why f. absurd (placed_refused t.end z why e f);
          ended = λ wt f. absurd (placed_ended t.end z wt e f);
        }

  -- ---- a refusal

  module _ (kind : Kind) (k : Standing) (more : (why : Refusal) → kind ≡ kind_of why → CountsMore h (refused_by why) k) (e : t.end ≡ ends.Refused kind) where
    name : (why : Refusal) × (kind ≡ kind_of why)
    name = named kind

    is : t.end ≡ end_of name.0
    is = refused_as t.end kind name.0 e name.1

    pub can_record : CanRecord w s p k u v ever bl
    can_record =
        let m = more name.0 name.1 in
        record {
          small_slots = can.small_slots;
          small_points = can.small_points;
          can = record {
            blocks = subst (λ (z : ℕ). Blocks w (refused_at s p) (3 * s) p z ever bl) (sym (m.quads ∙ tm.quads ∙ can.so_far.number)) can.so_far.blocks;
            count = m.records ∙ tm.records ∙ can.so_far.records;
            edge = can.edge;
            enough = can.refused name.0 is;
          };
        }

    pub record_settles : (w' : List ℕ) (r : Step) → RecordTo w w' s p k u v ever bl r → SettleTo w w' quads s p g t u v ever bl qs old r
    record_settles w' r to =
        record {
          kept = to.kept;
          placed = λ z f. absurd (placed_refused t.end z name.0 f is);
          refused = λ why f.
              let m = more why (same_kind t.end kind why e f) in
              let number = m.quads ∙ tm.quads ∙ can.so_far.number in
              record {
                kind = to.kind;
                counted = record { counters = to.standing.counters ∙ m.counters ∙ tm.counters; counts = λ a. to.standing.counts ∙ m.counts ∙ ap (λ z. z ⊞ refused_by why) (tm.counts a t.flips); words = to.standing.words ∙ m.words ∙ tm.words };
                so_far = record {
                  blocks = subst (λ (z : ℕ). Blocks w' (refused_at s p) (3 * s) p z (with_edge (u, v) ever) ((u, v) ∷ bl)) number to.blocks;
                  records = to.standing.records;
                  number = to.standing.quads ∙ number;
                  text = can.so_far.text;
                };
              };
          ended = λ wt f. absurd (refused_ended t.end name.0 wt is f);
        }

  -- ---- the end

  ends_as : (wt : Want) (r : Step) → r.kind ≡ want_kind wt → r.standing ≡ h → Ending w quads s p g t wt ever bl qs old r
  ends_as wt r k f =
      record {
        kind = k;
        counted = record { counters = ap (λ z. z.counters) f ∙ tm.counters; counts = λ a. ap counts_of f ∙ tm.counts a t.flips; words = ap (λ z. z.words) f ∙ tm.words };
        so_far = record { blocks = can.so_far.blocks; records = ap (λ z. z.records) f ∙ so_far.records; number = ap (λ z. z.quads) f ∙ so_far.number; text = can.so_far.text };
      }

  pub end_settles : (short : Shortage) (r : Step) → t.end ≡ ends.Short short → r.kind ≡ goings.Short short → r.standing ≡ h → SettleTo w w quads s p g t u v ever bl qs old r
  end_settles short r e k f =
      let want = wanted short in
      let is : t.end ≡ end_for want.0 = short_as t.end short want.0 e want.1 in
      record {
        kept = only_refl w (refused_at s p) ((refused_at s p) + (size (3 * s) p));
        placed = λ z a. absurd (placed_ended t.end z want.0 a is);
        refused = λ why a. absurd (refused_ended t.end why want.0 a is);
        ended = λ wu a. ends_as wu r (k ∙ ap goings.Short (same_short t.end short wu e a)) f;
      }
