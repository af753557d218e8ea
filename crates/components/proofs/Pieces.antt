-- The pieces that a region leaves, taken from beside it: whole ones, which are even, and a part of one more.
use Rattle.std.specs.Prelude.{IsSome, is_some, Option as Answer, ◌≡◌, ◌≢◌, ◌⊎◌, ◌+◌, ◌-◌, ◌%◌, ◌<◌, ◌≤◌, ◌∷◌, ◌++◌}
use Rattle.laws.specs.Kit.{refl, sym, ◌∙◌, ap, subst, inl, inr, Bool, true, false, ℕ, arith, List, [], map, append-nil, append_assoc, length, length-append, length-map}
use Rattle.rings.specs.Rings.{Out}
use Rattle.definition.specs.Cells.{Tri, Live, Mesh, live_tri, tris_of}
use Rattle.definition.specs.Components.{odd_one, removing_leaves_odd_component}
use Rattle.laws.specs.Lists.{In, in_left, in_either}
use Rattle.cells.specs.Rep.{TriIn, slots}
use Rattle.regions.specs.Listing.{Listed, Aside}
use Rattle.regions.proofs.Listings.{aside_refl, aside_trans}
use Rattle.regions.proofs.Reaches.{appended}
use Rattle.components.specs.Flood.{body, Marked, Met, Whole, Flooding, Flooded}
use Rattle.components.specs.Seek.{Looked}
use Rattle.components.specs.Near.{BesideOne, Around, Pieced}
use Rattle.components.specs.Odd.{OddTo}
use Rattle.components.proofs.Members.{tris_at, body_three}
use Rattle.components.proofs.Grows.{few}
use Rattle.components.proofs.Floods.{begun, flood_end}
use Rattle.components.proofs.Looks.{none_found}
use Rattle.components.proofs.Classes.{odd_yes}
use Rattle.components.proofs.Sweeps.{joined, Piece, Sweeping, new_piece, left_tris, left_distinct, piece_class, piece_count}
use Rattle.components.proofs.Odds.{kept_listed, one_odd}
use Rattle.components.proofs.Beside.{Cut, cut_even}

-- ---- a flood that is stopped

-- no fewer are listed
pub met_more : {w w' : List ℕ} {s p n r : ℕ} {m : Mesh} {xs : List Live} {P : Live → Type 0} → Marked w s p n m xs → Met w w' s p r m xs P → n ≤ r
met_more {xs = xs} h f = omega (arith, h.len, f.state.len, length-append xs f.new)

module _ {v w : List ℕ} {s p k head : ℕ} {m : Mesh} {xs : List Live} {x : Live} (g : Flooding v w s p k head m xs x) where
  -- seen from an earlier memory
  pub flooding_from : {u : List ℕ} → Aside u v s p → Flooding u w s p k head m xs x
  flooding_from {u} a =
      record {
        done = g.done;
        todo = g.todo;
        state = g.state;
        aside = aside_trans u v w s p a g.aside;
        at = g.at;
        reach = g.reach;
      }

  -- and from its own
  pub flooding_at : Flooding w w s p k head m xs x
  flooding_at =
      record {
        done = g.done;
        todo = g.todo;
        state = g.state;
        aside = aside_refl w s p;
        at = g.at;
        reach = g.reach;
      }

  pub flooding_around : {n : ℕ} (region rest : List Live) → xs ≡ region ++ rest → n ≡ length region → Around w s p k n m region (xs ++ (g.done ++ g.todo))
  flooding_around region rest e l =
      record {
        state = g.state;
        rest = rest ++ (g.done ++ g.todo);
        parts = ap (λ (z : List Live). z ++ (g.done ++ g.todo)) e ∙ append_assoc region rest (g.done ++ g.todo);
        len = l;
      }

-- the flood from the triangle in slot i, which was appended
module _ {w : List ℕ} {s p k i : ℕ} {m : Mesh} {xs : List Live} (h : Marked w s p k m xs) (t : TriIn m i) (o : Out i (slots xs)) {w1 : List ℕ} (e : w1 ≡ appended w s p k i) where
  pub begun_aside : {w2 : List ℕ} → Aside w1 w2 s p → Aside w w2 s p
  begun_aside {w2} a = aside_trans w w1 w2 s p (subst (λ (v : List ℕ). Aside w v s p) (sym e) (begun h t o).aside) a

-- the flood so far, and what a look around the region found
pub record Spreading (v w : List ℕ) (s p k head : ℕ) (t : Answer ℕ) (m : Mesh) (region xs : List Live) (x : Live) : Type 0 where
  pub flood : Flooding v w s p k head m xs x
  pub looked : Looked s t m (xs ++ (flood.done ++ flood.todo)) (BesideOne region)

-- it ends where it is whole, or none beside the region is left
pub pieced : {u v w : List ℕ} {s p k head : ℕ} {t : Answer ℕ} {m : Mesh} {region xs : List Live} {x : Live} → Aside u v s p → Spreading v w s p k head t m region xs x → (IsSome t → k ≤ head)
    → Pieced u w s p k t m region xs x
unfolding flood_end
pieced {u} {v} {w} {s} {p} a g h =
    record {
      new = g.flood.done ++ g.flood.todo;
      state = g.flood.state;
      aside = aside_trans u v w s p a g.flood.aside;
      done = g.flood.done;
      reach = g.flood.reach;
      whole = λ l. (flood_end g.flood (h l)).reach;
      looked = g.looked;
    }

-- ---- the pieces so far

-- those taken are whole and even, and t is what a look around the region finds
pub record Taking (w₀ w : List ℕ) (s p k : ℕ) (t : Answer ℕ) (m : Mesh) (region : List Live) : Type 0 where
  pub pieces : List (List Live)
  pub sweep : Sweeping w₀ w s p k 0 m region pieces
  pub even : (x : List Live) → In x pieces → length x % 2 ≡ 0
  pub looked : Looked s t m (region ++ joined pieces) (BesideOne region)

pub start_around : {w : List ℕ} {s p n : ℕ} {m : Mesh} {region : List Live} → Marked w s p n m region → Around w s p n n m region region
start_around {region = region} h = record { state = h; rest = []; parts = sym (append-nil region); len = h.len }

pub taking_start : {w : List ℕ} {s p n : ℕ} {t : Answer ℕ} {m : Mesh} {region : List Live} → Marked w s p n m region → Looked s t m region (BesideOne region) → Taking w w s p n t m region
taking_start {w} {s} {p} {t = t} {m = m} {region = region} h f =
    record {
      pieces = [];
      sweep = record { state = rw (append-nil region) h; aside = aside_refl w s p; pieces = λ k i. absurd i; past = λ y i b l. absurd (omega arith) };
      even = λ x i. absurd i;
      looked = subst (λ (l : List Live). Looked s t m l (BesideOne region)) (sym (append-nil region)) f;
    }

module _ {w₀ w : List ℕ} {s p k : ℕ} {t : Answer ℕ} {m : Mesh} {region : List Live} (g : Taking w₀ w s p k t m region) where
  pub taking_few : k ≤ s
  taking_few = omega (arith, few g.sweep.state, g.sweep.state.rep.used)

  pub taking_around : {n : ℕ} → n ≡ length region → Around w s p k n m region (region ++ joined g.pieces)
  taking_around e = record { state = g.sweep.state; rest = joined g.pieces; parts = refl; len = e }

  module _ {n : ℕ} (e : n ≡ length region) (two : n % 2 ≡ 0) (none : odd_one (tris_of m.live) ≡ false) where
    -- the whole ones, and a part of one more
    cut : (part : List Live) → ((c : Tri → Bool) → Whole c m region → (v : Bool) × ((z : Live) → In z part → c (body z) ≡ v))
        → ((z : Live) → In z m.live → live_tri z ≡ true → BesideOne region z → In z (region ++ joined g.pieces) ⊎ In z part) → Cut m region g.pieces part
    cut part alike near =
        record {
          differ = g.sweep.state.rep.distinct;
          three = body_three w s p m g.sweep.state.rep;
          some = record { slots_differ = g.sweep.state.distinct; live = g.sweep.state.live; tris = tris_at (region ++ joined g.pieces) g.sweep.state.tris };
          size = ap (λ (z : ℕ). z % 2) (sym e) ∙ two;
          pieces = g.sweep.pieces;
          even = g.even;
          alike = alike;
          near = near;
        }

    -- no triangle beside the region is left
    pub none_beside : is_some t ≡ false → {w1 : List ℕ} → Listed w1 s p n m region → Aside w1 w₀ s p → OddTo w1 w s p n m region false
    none_beside l {w1} h a =
        record {
          same = sym (cut_even m region g.pieces [] (cut [] (λ c f. (false, λ z i. absurd i))
              (λ z i b q. inl (none_found g.looked l z i b q))) none);
          list = kept_listed (joined g.pieces) h g.sweep.state refl;
          aside = aside_trans w1 w₀ w s p a g.sweep.aside;
        }

    -- no triangle beside the region is left after a part of one piece more
    pub none_after : {w' : List ℕ} {r : ℕ} {t' : Answer ℕ} {x : Live} → Pieced w w' s p r t' m region (region ++ joined g.pieces) x → is_some t' ≡ false → {w1 : List ℕ} → Listed w1 s p n m region → Aside w1 w₀ s p
        → OddTo w1 w' s p n m region false
    none_after {w'} {r} {t'} {x} f l {w1} h a =
        let xs = region ++ joined g.pieces in
        record {
          same = sym (cut_even m region g.pieces f.new (cut f.new
              (λ c q. (c (body x), f.reach.linked c (λ y z l1 l2 t1 t2 o1 o2. q y z l1 l2 t1 t2 (λ i. o1 (in_left y region (joined g.pieces) i)) (λ i. o2 (in_left z region (joined g.pieces) i)))))
              (λ z i b q. in_either z xs f.new (none_found f.looked l z i b q))) none);
          list = kept_listed (joined g.pieces ++ f.new) h f.state (append_assoc region (joined g.pieces) f.new);
          aside = aside_trans w1 w₀ w' s p a (aside_trans w₀ w w' s p g.sweep.aside f.aside);
        }

  module _ {w' : List ℕ} {r : ℕ} {t' : Answer ℕ} {x : Live} (f : Pieced w w' s p r t' m region (region ++ joined g.pieces) x) where
    pub pieced_length : r ≡ k + length f.new
    pieced_length = omega (arith, f.state.len, g.sweep.state.len, length-append (region ++ joined g.pieces) f.new)

    pub pieced_more : k < r
    pieced_more = go f.new f.reach.first pieced_length
      where
        go : (new : List Live) → In x new → r ≡ k + length new → k < r
        go [] i q = absurd i
        go (y ∷ new) i q = omega (arith, q)

    pub pieced_few : r ≤ s
    pieced_few = omega (arith, few f.state, f.state.rep.used)

    module _ (l : IsSome t') where
      flooded : Flooded w w' s p r m (region ++ joined g.pieces) x
      flooded = record { new = f.new; state = f.state; aside = f.aside; reach = f.whole l }

      sweeps : Sweeping w₀ w' s p r 0 m region (f.new ∷ g.pieces)
      unfolding flooded
      sweeps =
          record {
            state = subst (λ (z : List Live). Marked w' s p r m z) (append_assoc region (joined g.pieces) f.new) f.state;
            aside = aside_trans w₀ w w' s p g.sweep.aside f.aside;
            pieces = λ z i. elim i [ inl q ↦ subst (λ (v : List Live). Piece m region v) (sym q) (new_piece g.sweep flooded) | inr j ↦ g.sweep.pieces z j ];
            past = λ y i b q. absurd (omega arith);
          }

      -- an even piece
      pub taking_on : (r - k) % 2 ≡ 0 → Taking w₀ w' s p r t' m region
      taking_on q =
          let n : r - k ≡ length f.new = omega (arith, pieced_length) in
          record {
            pieces = f.new ∷ g.pieces;
            sweep = sweeps;
            even = λ y j. elim j [ inl z ↦ ap (λ (v : List Live). length v % 2) z ∙ ap (λ (v : ℕ). v % 2) (sym n) ∙ q | inr z ↦ g.even y z ];
            looked = subst (λ (z : List Live). Looked s t' m z (BesideOne region)) (append_assoc region (joined g.pieces) f.new) f.looked;
          }

      -- an odd one
      pub odd_piece : (r - k) % 2 ≢ 0 → {w1 : List ℕ} {n : ℕ} → Listed w1 s p n m region → Aside w1 w₀ s p → OddTo w1 w' s p n m region true
      unfolding removing_leaves_odd_component
      odd_piece q {w1} {n} h a =
          let c = sweeps in
          let z : r - k ≡ length (map body f.new) = omega (arith, pieced_length, length-map f.new body) in
          record {
            same = sym (odd_yes (left_tris m region) (left_distinct c) (map body f.new)
                (piece_class c f.new (inl refl))
                (piece_count c f.new (inl refl))
                (ap (λ (v : ℕ). v % 2) (sym z) ∙ one_odd (r - k) q));
            list = kept_listed (joined g.pieces ++ f.new) h c.state refl;
            aside = aside_trans w1 w₀ w' s p a c.aside;
          }
