use lib.Ieee.{Float}
use mathlib.Core.Path.{◌≡◌, refl, sym, ◌∙◌, subst}
use mathlib.Core.Bool.{Bool, false}
use mathlib.Core.List.{List}
use Prim.Native.Nat.{ℕ, ◌+◌, ◌<◌, ◌≤◌}
use native.Mathlib.Decide.{dec_le}
use native.Mathlib.Omega.{arith}
use lib.ListN.{length, get_or}
use Rattle.definition.specs.Cells.{Live, Mesh}
use Rattle.plane.specs.Vectors.{vec}
use Rattle.rules.specs.Settings.{quality_of}
use Rattle.edge_candidates.specs.Wanted.{turn}
use Rattle.candidates.specs.Words.{Told, FirstTold}
use Rattle.candidates.specs.Choice.{is_choice, CanPick}
use Rattle.candidates.specs.declared.aim.Known.{Known}
use Rattle.candidates.specs.declared.spans.Span.{Span}
use Rattle.candidates.proofs.Lists.{Listing, listing_from, listing_on, listing_more, listing_end, pick_hand, pick_wish, words_kept}
use Rattle.candidates.proofs.Growth.{choice_before, choice_behind}
use Rattle.candidates.proofs.Words.{choice_untold}
use Rattle.candidates.proofs.pick_among.Goals as goal

-- the words are as they were from `from` on
abbrev Same : List ℕ → List ℕ → ℕ → ℕ → Type 0
Same w₀ w b from = (u : ℕ) → from ≤ u → get_or w (b + u) 0 ≡ get_or w₀ (b + u) 0

module _ (w₀ w : List ℕ) (q : List Float) (s p k b : ℕ) (o : Known) (g : Span) (from r : ℕ) (low : g.low ≤ from) (m : Mesh) (region : List Live) (h : CanPick w₀ q s p k b o.aim.end o.aim.other o.at o.wish g m region) (same : Same w₀ w b from) where
  -- which nodes are side nodes
  abbrev chosen : ℕ → Bool
  chosen = is_choice (quality_of o.aim.quality) (turn o.aim.left) m o.aim.end o.aim.other (vec o.aim.normal) o.aim.target region

  -- a node of the span whose word is 0 is none
  untold : (u : ℕ) → from ≤ u → u ≤ g.high → get_or w (b + u) 0 ≡ 0 → chosen u ≡ false
  untold u f l z =
      choice_untold (quality_of o.aim.quality) (turn o.aim.left) m o.aim.end o.aim.other (vec o.aim.normal) o.aim.target region u (get_or w₀ (b + u) 0) (h.told u (record { from = omega arith; to = l })) (sym (same u f) ∙ z)

  -- those up to the next node that may be one
  up : (v : ℕ) → FirstTold w b from g.high v → Listing w₀ w p b from r chosen → Listing w₀ w p b v r chosen
  up v f l = listing_on w₀ w p b from r v chosen f.least (λ u d e. untold u d (omega (arith, e, f.most)) (f.none u d e)) l

  -- what its word tells
  told : (v : ℕ) → FirstTold w b from g.high v → Told m o.aim.end region v (get_or w (b + v) 0)
  told v f = subst (Told m o.aim.end region v) (sym (same v f.least)) (h.told v (record { from = omega (arith, f.least); to = f.most }))

  -- none from here on
  none_on : ((u : ℕ) → from ≤ u → u ≤ g.high → get_or w (b + u) 0 ≡ 0) → (u : ℕ) → from ≤ u → chosen u ≡ false
  none_on f u d =
      elim (dec_le u g.high) [
        | yes l ↦ untold u d l (f u d l)
        | no l ↦ choice_behind (quality_of o.aim.quality) (turn o.aim.left) m o.aim.end o.aim.other (vec o.aim.normal) o.aim.target region u g h.spans (omega arith)
      ]

pub loop-v-init : goal.loop-v-init
loop-v-init c =
    let a = c.args in
    record {
      few = omega arith;
      most = let h = c.requires.2 in omega (arith, h.spans.node.from, h.spans.node.to);
      least = omega arith;
      same = λ u e. refl;
      listing =
          λ m region e y.
          listing_from a.w.now a.lay.points a.b a.g.low (is_choice (quality_of a.o.aim.quality) (turn a.o.aim.left) m a.o.aim.end a.o.aim.other (vec a.o.aim.normal) a.o.aim.target region)
          (λ u k. choice_before (quality_of a.o.aim.quality) (turn a.o.aim.left) m a.o.aim.end a.o.aim.other (vec a.o.aim.normal) a.o.aim.target region u a.g e.spans k);
    }

pub is_choice-yes-requires : goal.is_choice-yes-requires
is_choice-yes-requires c =
    let x = c.loop-v in
    let a = c.args in
    let v = c.in-Some.v in
    let f : FirstTold x.w a.b x.from a.g.high v = c.in-Some.ensures in
    let m = c.requires.0 in
    let g = c.requires.1 in
    let h = c.requires.2 in
    let y = c.requires.3 in
    let z = (x.invariant.listing m g h y).besides in (
      m,
      g,
      record { hand = pick_hand a.w.now x.w a.q.now a.lay.slots a.lay.points a.k a.b a.o.aim.end a.o.aim.other a.o.at a.o.wish a.g m g h z; boxes = y },
      pick_wish a.w.now x.w a.q.now a.lay.slots a.lay.points a.k a.b a.o.aim.end a.o.aim.other a.o.at a.o.wish a.g m g h z,
      record { first = h.end; second = omega (arith, f.most, h.spans.known) },
      told a.w.now x.w a.q.now a.lay.slots a.lay.points a.k a.b a.o a.g x.from x.r x.invariant.least m g h x.invariant.same v f,
    )

pub loop-v-preserved : goal.loop-v-preserved
loop-v-preserved c =
    let x = c.loop-v in
    let a = c.args in
    let w = a.w.now in
    let v = c.in-Some.v in
    let f : FirstTold x.w a.b x.from a.g.high v = c.in-Some.ensures in
    let few : x.r ≤ v = omega (arith, x.invariant.few, f.least) in
    let e = c.add-r.ensures in
    record {
      few = omega (arith, e.most, few);
      most = omega (arith, f.most);
      least = omega (arith, x.invariant.least, f.least);
      same = words_kept w x.w c.add-r.new.w a.b x.r v c.add-r.result c.is_choice-yes.result few e (λ u d. x.invariant.same u (omega (arith, d, f.least)));
      listing =
          λ m region h y.
          let z = x.invariant.listing m region h y in
          let l : v < length m.points = omega (arith, f.most, h.spans.known) in
          listing_more w x.w a.lay.points a.b v x.r _ (up w x.w a.q.now a.lay.slots a.lay.points a.k a.b a.o a.g x.from x.r x.invariant.least m region h x.invariant.same v f z) few
          (omega (arith, l, h.hand.rep.points)) (omega (arith, x.auto.w, h.to, h.wish.to)) c.add-r.new.w c.is_choice-yes.result c.add-r.result
          (c.is_choice-yes.ensures m region (record { hand = pick_hand w x.w a.q.now a.lay.slots a.lay.points a.k a.b a.o.aim.end a.o.aim.other a.o.at a.o.wish a.g m region h z.besides; boxes = y })
          (pick_wish w x.w a.q.now a.lay.slots a.lay.points a.k a.b a.o.aim.end a.o.aim.other a.o.at a.o.wish a.g m region h z.besides) (record { first = h.end; second = l })
          (told w x.w a.q.now a.lay.slots a.lay.points a.k a.b a.o a.g x.from x.r x.invariant.least m region h x.invariant.same v f)) e;
    }

pub returns : goal.returns
returns c =
    let x = c.loop-v in
    let a = c.args in
    λ m region h y.
    listing_end a.w.now x.w a.lay.slots a.lay.points (length m.points) a.b x.from x.r _ h.from (x.invariant.listing m region h y) x.invariant.few (omega (arith, x.invariant.most, h.spans.known))
    (none_on a.w.now x.w a.q.now a.lay.slots a.lay.points a.k a.b a.o a.g x.from x.r x.invariant.least m region h x.invariant.same c.in_default.ensures)
