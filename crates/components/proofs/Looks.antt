-- A look for a triangle that is not listed, beside a triangle and around a region.
use Rattle.std.specs.Prelude.{None, Some, IsSome, is_some, Option as Answer, ◌≡◌, ◌+◌, ◌<◌, ◌≤◌, ◌∷◌, ◌++◌}
use Rattle.laws.specs.Kit.{refl, sym, ◌∙◌, ap, subst, inl, inr, true, false, ℕ, arith, List, [], append-nil, append_assoc, length, get_or, length-append}
use Rattle.rings.specs.Rings.{Out}
use Rattle.definition.specs.Cells.{Tri, Live, Mesh, live_tri}
use Rattle.laws.specs.Lists.{In, in_right, in_either, Stored}
use Rattle.regions.proofs.Floods.{stored_at}
use Rattle.account.specs.Triangles.{Shares}
use Rattle.cells.specs.Layout.{list_at}
use Rattle.cells.specs.Rep.{TriIn, slots}
use Rattle.regions.specs.Listing.{CanList}
use Rattle.components.specs.Flood.{body, At, Beside}
use Rattle.components.specs.Seek.{Looked, nobody, somebody}
use Rattle.components.specs.Near.{BesideOne, Around}
use Rattle.components.proofs.Members.{Nodes, tris_at, shares_at}
use Rattle.components.proofs.Grows.{few, can_list}
use Rattle.components.proofs.Meets.{at_same}
use Rattle.components.proofs.Floods.{tri_at}

-- ---- found or not

-- it is a triangle of the mesh, and not listed
pub found_tri : {s j : ℕ} {r : Answer ℕ} {m : Mesh} {xs : List Live} {P : Live → Type 0} → Looked s r m xs P → r ≡ Some j → TriIn m j × Out j (slots xs)
found_tri (nobody k f) l = absurd (cc)
found_tri {j = j} {m = m} {xs = xs} (somebody y i t e k o) l =
    let q : y.slot ≡ j = cc in
    (tri_at m j y i t (sym q), subst (λ (v : ℕ). Out v (slots xs)) q o)

-- none was found
pub none_found : {s : ℕ} {r : Answer ℕ} {m : Mesh} {xs : List Live} {P : Live → Type 0} → Looked s r m xs P → is_some r ≡ false → (y : Live) → In y m.live → live_tri y ≡ true → P y → In y xs
none_found (nobody k f) l = f
none_found (somebody y i t e k o) l = absurd (let z = ap is_some e in cc)

-- one found is one, whatever was looked for
pub looked_other : {s : ℕ} {r : Answer ℕ} {m : Mesh} {xs : List Live} {P Q : Live → Type 0} → Looked s r m xs P → IsSome r → Looked s r m xs Q
looked_other (nobody k f) l = absurd (let z = ap is_some k in cc)
looked_other (somebody y i t e k o) l = somebody y i t e k o

-- beside a triangle: none at its first node, then none at the second
pub looked_both : {s p : ℕ} {m : Mesh} {xs : List Live} {t : Tri} {x y z u v : ℕ} → Nodes p x y z t → u ≡ x → v ≡ y → Looked s None m xs (At u y z) → Looked s None m xs (At v z z)
    → Looked s None m xs (Beside t)
looked_both {t = t} {y = y} {z = z} {u = u} {v = v} n eu ev a b = nobody refl (λ k i h o. elim (shares_at t k o) [
  | inl j ↦ none_found a refl k i h (at_same k t.n0 t.n1 t.n2 u y z (sym (eu ∙ n.n0)) (sym n.n1) (sym n.n2) j)
  | inr j ↦ none_found b refl k i h (at_same k t.n1 t.n2 t.n2 v z z (sym (ev ∙ n.n1)) (sym n.n2) (sym n.n2) j)
])

-- ---- around a region

-- no triangle beside those of the first i places is left
pub record Looking (i : ℕ) (m : Mesh) (region xs : List Live) : Type 0 where
  pub done : List Live
  pub todo : List Live
  pub parts : region ≡ done ++ todo
  pub at : i ≡ length done
  pub so : (z : Live) → In z m.live → live_tri z ≡ true → BesideOne done z → In z xs

pub looking_start : (m : Mesh) (region xs : List Live) → Looking 0 m region xs
looking_start m region xs = record { done = []; todo = region; parts = refl; at = refl; so = λ z l t b. absurd b.1 }

-- the next of the region is y, in slot j
pub record Facing (i j : ℕ) (m : Mesh) (region xs : List Live) : Type 0 where
  pub done : List Live
  pub y : Live
  pub todo : List Live
  pub parts : region ≡ done ++ y ∷ todo
  pub at : i ≡ length done
  pub so : (z : Live) → In z m.live → live_tri z ≡ true → BesideOne done z → In z xs
  pub live : In y m.live
  pub is_tri : live_tri y ≡ true
  pub slot : j ≡ y.slot

module _ {w : List ℕ} {s p k n : ℕ} (i : ℕ) {m : Mesh} {region xs : List Live} (a : Around w s p k n m region xs) where
  pub around_few : n ≤ s
  around_few = omega (arith, few a.state, a.state.rep.used, a.state.len, ap length a.parts, length-append region a.rest, a.len)

  pub around_can : i < n → CanList w s p i
  around_can l = can_list a.state i (omega (arith, l, around_few))

  pub facing : Looking i m region xs → i < n → {j : ℕ} → j ≡ get_or w (list_at s p + i) 0 → Facing i j m region xs
  facing g l {j} q = go g.done g.todo g.parts g.at g.so
    where
      go : (done todo : List Live) → region ≡ done ++ todo → i ≡ length done → ((z : Live) → In z m.live → live_tri z ≡ true → BesideOne done z → In z xs) → Facing i j m region xs
      go done [] e b f = absurd (omega (arith, a.len, ap length e, length-append done [], b, l))
      go done (y ∷ todo) e b f =
          let whole : xs ≡ done ++ y ∷ (todo ++ a.rest) = a.parts ∙ ap (λ (v : List Live). v ++ a.rest) e ∙ append_assoc done (y ∷ todo) a.rest in
          let h : In y xs = subst (λ (v : List Live). In y v) (sym whole) (in_right y done (y ∷ (todo ++ a.rest)) (inl refl)) in
          let st : get_or w (list_at s p + length done) 0 ≡ y.slot =
          stored_at w (list_at s p) done y (todo ++ a.rest) (subst (λ (v : List Live). Stored w (list_at s p) (slots v)) whole a.state.stored) in
          record {
            done = done;
            y = y;
            todo = todo;
            parts = e;
            at = b;
            so = f;
            live = a.state.live y h;
            is_tri = tris_at xs a.state.tris y h;
            slot = q ∙ ap (λ (v : ℕ). get_or w (list_at s p + v) 0) b ∙ st;
          }

  pub looking_end : Looking i m region xs → n ≤ i → Looked s None m xs (BesideOne region)
  looking_end g l = go g.done g.todo g.parts g.at g.so
    where
      go : (done todo : List Live) → region ≡ done ++ todo → i ≡ length done → ((z : Live) → In z m.live → live_tri z ≡ true → BesideOne done z → In z xs) → Looked s None m xs (BesideOne region)
      go done [] e b f = nobody refl (λ z v t h. f z v t (h.0, subst (λ (u : List Live). In h.0 u) (e ∙ append-nil done) h.1, h.2))
      go done (y ∷ todo) e b f = absurd (omega (arith, a.len, ap length e, length-append done (y ∷ todo), b, l))

module _ {i j : ℕ} {m : Mesh} {region xs : List Live} (b : Facing i j m region xs) where
  pub facing_tri : TriIn m j
  facing_tri = tri_at m j b.y b.live b.is_tri b.slot

  pub looking_on : {s : ℕ} {r : Answer ℕ} → Looked s r m xs (Beside facing_tri.t) → is_some r ≡ false → Looking (i + 1) m region xs
  unfolding facing_tri tri_at
  looking_on h l =
      record {
        done = b.done ++ b.y ∷ [];
        todo = b.todo;
        parts = b.parts ∙ sym (append_assoc b.done (b.y ∷ []) b.todo);
        at = omega (arith, b.at, length-append b.done (b.y ∷ []));
        so = λ z v t u. elim (in_either u.0 b.done (b.y ∷ []) u.1) [
          | inl q ↦ b.so z v t (u.0, q, u.2)
          | inr (inl q) ↦ none_found h l z v t (subst (λ (o : Live). Shares (body o) (body z)) q u.2)
          | inr (inr q) ↦ absurd q
        ];
      }
