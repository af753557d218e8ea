-- The entry of a quad: its numbers, and the slots that it replaces.
use Rattle.std.specs.Prelude.{◌≡◌, ◌+◌, ◌^◌, ◌<◌, ◌≤◌, ◌∷◌}
use Rattle.laws.specs.Kit.{refl, sym, ◌∙◌, ap, subst, inl, inr, not, ℕ, min, max, arith, List, [], map, length, take, drop}
use Rattle.rings.proofs.Lists.{room}
use Rattle.definition.specs.Lists.{filter}
use Rattle.definition.specs.Plane.{Edge}
use Rattle.definition.specs.Cells.{Quad, Live, was_placed, Mesh, key, new_quad, born, live_tri, this_round, with_live, noting, remove_cells, push_cell}
use Rattle.definition.specs.Trace.{entry}
use Rattle.definition.specs.Attempt.{replaced}
use Rattle.laws.specs.Bools.{which}
use Rattle.laws.specs.Lists.{filter_yes, filter_no, stored_take}
use Rattle.cells.specs.Layout.{Sizes, list_at}
use Rattle.cells.specs.Rep.{slots, Rep}
use Rattle.cells.proofs.Slots.{slots_below}
use Rattle.traces.specs.Log.{Notes, IsGrown, Words, Placing}
use Rattle.traces.specs.declared.Log.{Log}
use Rattle.traces.specs.declared.Grown.{Grown}
use Rattle.regions.proofs.Listings.{few}
use Rattle.pairs.specs.Steps.{grown, CanEnter}

-- ---- what happens to the mesh

-- the slots of the cells, in their order
abbrev pub ids : List Live → List ℕ
ids xs = map (λ x. x.slot) xs

pub replaced_notes : (m : Mesh) (k : Quad) (xs : List Live) → Notes (was_placed k (ids xs)) m (replaced m k xs)
unfolding replaced noting push_cell remove_cells with_live
replaced_notes m k xs = record { room = refl; history = refl }

ids_length : (xs : List Live) → length (ids xs) ≡ length xs
ids_length [] = refl
ids_length (x ∷ xs) = omega (arith, ids_length xs)

-- nine words and the slots
pub entry_length : (k : Quad) (xs : List Live) (n : ℕ) → n ≡ length xs → length (entry (was_placed k (ids xs))) ≡ 9 + n
unfolding entry
entry_length k xs n e = omega (arith, ids_length xs, e)

-- ---- the slots in the list

slots_ids : (xs : List Live) → slots xs ≡ ids xs
slots_ids [] = refl
slots_ids (x ∷ xs) = ap (λ (l : List ℕ). x.slot ∷ l) (slots_ids xs)

-- ---- the round is a small number

others_few : (l : List Live) → length (filter (λ x. not (live_tri x)) l) ≤ length (slots l)
unfolding filter
others_few [] = omega arith
others_few (x ∷ l) = elim (which (not (live_tri x))) [
  | inl e ↦ omega (arith, ap length (filter_yes (λ x. not (live_tri x)) x l e), others_few l)
  | inr e ↦ omega (arith, ap length (filter_no (λ x. not (live_tri x)) x l e), others_few l)
]

round_few : (w : List ℕ) (s p : ℕ) (m : Mesh) → Rep w s p m → this_round m ≤ s + 1
unfolding this_round
round_few w s p m r =
    let h = room m.used (slots m.live) r.distinct (slots_below w s m.used (length m.points) m.live r.cells) in
    omega (arith, others_few m.live, h, r.used)

-- ---- the quad's numbers

-- the numbers of a quad
pub grown_is : (a b d e round : ℕ) (g : Grown) → g.n0 ≡ a → g.n1 ≡ b → g.n2 ≡ d → g.n3 ≡ e → key a b ≡ (g.u, g.v) → g.round ≡ round
    → (gone : ℕ) → IsGrown (born round gone (new_quad a b d e)) g
unfolding born new_quad
grown_is a b d e round g h0 h1 h2 h3 k r gone = record { node0 = sym h0; node1 = sym h1; node2 = sym h2; node3 = sym h3; edge = k; round = sym r }

-- fit words
grown_words : (n a b d e round gone : ℕ) (g : Grown) → IsGrown (born round gone (new_quad a b d e)) g → a < n → b < n → d < n → e < n → n ≤ 2 ^ 32 → round < 2 ^ 32 → Words g
unfolding born new_quad key
grown_words n a b d e round gone g h ha hb hd he small r =
    let first : min a b ≡ g.u = ap (λ (z : Edge). z.0) h.edge in
    let second : max a b ≡ g.v = ap (λ (z : Edge). z.1) h.edge in
    record {
      node0 = omega (arith, h.node0, ha, small);
      node1 = omega (arith, h.node1, hb, small);
      node2 = omega (arith, h.node2, hd, small);
      node3 = omega (arith, h.node3, he, small);
      first = omega (arith, first, ha, small);
      second = omega (arith, second, hb, ha, small);
      round = omega (arith, h.round, r);
    }

-- ---- the entry

module _ {w base t : List ℕ} {s p : ℕ} {log : Log} {n a b d e : ℕ} {m : Mesh} {xs : List Live} (c : CanEnter w base t s p log n a b d e m xs) where
  enough : n ≤ s
  enough = omega (arith, few c.listed, c.listed.rep.used)

  pub enters_sizes : Sizes s p
  enters_sizes = let h = c.listed.rep.room.small in record { slots = omega (arith, h); points = omega (arith, h) }

  module _ (g : Grown) (is : (gone : ℕ) → IsGrown (born log.round gone (new_quad a b d e)) g) where
    pub enters_placing : (from : ℕ) → from ≡ list_at s p → Placing w from n g (grown m n a b d e) (ids xs) m (replaced m (grown m n a b d e) xs)
    enters_placing from f =
        let h = c.listed in
        let l : length (slots xs) ≡ n = ap length (slots_ids xs) ∙ ids_length xs ∙ sym h.len in
        let inside : list_at s p + n ≤ length w = omega (arith, enough, h.rep.room.fits) in
        let taken = stored_take w (list_at s p) (slots xs) (omega (arith, l, inside)) h.stored in
        record {
          quad = subst (λ (z : ℕ). IsGrown (born z n (new_quad a b d e)) g) c.round (is n);
          slots = record { fits = omega (arith, f, inside); are = ap (λ (z : ℕ). take n (drop z w)) f ∙ ap (λ (z : ℕ). take z (drop (list_at s p) w)) (sym l) ∙ taken ∙ slots_ids xs };
          enters = record { notes = replaced_notes m (grown m n a b d e) xs; fits = c.fits };
        }

    pub enters_words : Words g × (n < 2 ^ 32)
    enters_words =
        let r = c.listed.rep in
        let k = c.corners.below in
        let small : s ≤ 2 ^ 30 = omega (arith, r.room.small) in (
          grown_words (length m.points) a b d e log.round n g (is n) k.0 k.1.0 k.1.1.0 k.1.1.1.0 (omega (arith, r.points, r.room.small)) (omega (arith, c.round, round_few w s p m r, small)),
          omega (arith, enough, small),
        )
