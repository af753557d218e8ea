-- The acceptable pairs of an attempt, which it ranks, cuts to the permitted number and tries in turn;
use Rattle.std.specs.Prelude.{◌≡◌, ◌||◌, ◌∷◌}
use Rattle.laws.specs.Kit.{refl, sym, subst, inl, inr, true, false, cond, Option, none, some, ℕ, List, [], take}
use Rattle.definition.specs.Lists.{sort, flat_map}
use Rattle.definition.specs.Floats.{◌≼◌}
use Rattle.definition.specs.Numbers.{Settings, Quality, Turn, first_turn, second_turn, tiny_length}
use Rattle.definition.specs.Counts.{Placement, Spent, nothing_spent, inserting, Want}
use Rattle.definition.specs.Plane.{Edge, norm, from_to}
use Rattle.definition.specs.Cells.{Cell, tri, quad, Live, Mesh, node_at, tri_owner}
use Rattle.definition.specs.Insertion.{Inserted, nowhere, inserted, full}
use Rattle.definition.specs.Trials.{Trial, trial, trial_before, trials}
use Rattle.definition.specs.Attempt.{Attempt, refused, ended, try_trials, Stance, Sides, found, missing, overfull, sides_by, sides_from, side_nodes, try_both, try_first, stance, try_along, lies_left, try_seed, try_owner, try_quad}
use Rattle.laws.specs.Bools.{which, or_none, cond_ok}
use Rattle.account.specs.Steps.{SplitsKeep, SidesOk}
use Rattle.account.proofs.Steps.{Standing, side_nodes_ok}
use Rattle.account.specs.Pairs.{PairsRule, acceptable, pairs_along, pairs_both, pairs_first, pairs_of, pairs_owner, pairs_seed, turns}

module _ (s : Settings) (e : Edge) (start : Mesh) (P : ℕ → Mesh → Type 0) (splits : SplitsKeep s start P) (F : Spent → Type 0) (E : List Trial → Attempt → Type 0) (rule : PairsRule s e P F E) where
  abbrev SpentOk : Sides → Type 0
  SpentOk (found vs n m) = F n
  SpentOk (missing n m) = F n
  SpentOk (overfull w n m) = F n

  sides_by_spent : (n : Spent) (m : Mesh) (r : Inserted) → F n → SpentOk (sides_by n m r)
  unfolding sides_by
  sides_by_spent n m nowhere h = h
  sides_by_spent n m (inserted v m') h = rule.inserts n h
  sides_by_spent n m (full w) h = h

  sides_from_spent : (f : Stance) (n : Spent) (m : Mesh) (p : ℕ) (cs : List ℕ) → F n → SpentOk (sides_from s f n m p cs)
  unfolding sides_from
  sides_from_spent f n m p (c ∷ cs) h = h
  sides_from_spent f n m p [] h = cond_ok SpentOk f.mismatch _ _ (λ z. sides_by_spent n m _ h) (λ z. h)

  side_nodes_spent : (t : Turn) (f : Stance) (n : Spent) (m : Mesh) (p other : ℕ) → F n → SpentOk (side_nodes s t f n m p other)
  unfolding side_nodes
  side_nodes_spent t f n m p other h = sides_from_spent f n m p _ h

  both_pairs : (f : Stance) (cs : List ℕ) (r : Sides) → f.edge ≡ e → SidesOk P r → SpentOk r → E (pairs_both s f cs r) (try_both s f cs r)
  unfolding try_both pairs_both trials turns acceptable
  both_pairs f cs (missing n m) on h z = rule.refuses n m z
  both_pairs f cs (overfull w n m) on h z = rule.ends w n m z
  both_pairs f cs (found ds n m) on h z =
      let good = acceptable s.quality m f.a f.b cs ds in
      subst (λ g. E good (try_trials s n m g (trials s.quality m f.a f.b cs ds))) (sym on) (rule.tries n m good z h.0)

  first_pairs : (f : Stance) (r : Sides) → f.edge ≡ e → Standing s start P splits f → SidesOk P r → SpentOk r → E (pairs_first s f r) (try_first s f r)
  unfolding try_first pairs_first
  first_pairs f (missing n m) on st h z = rule.refuses n m z
  first_pairs f (overfull w n m) on st h z = rule.ends w n m z
  first_pairs f (found cs n m) on st h z =
      both_pairs f cs (side_nodes s second_turn f n m f.b f.a) on (side_nodes_ok s start P splits second_turn f n m f.b f.a st h.0) (side_nodes_spent second_turn f n m f.b f.a z)

  along_pairs : (seed a b : ℕ) → P 0 start → E (pairs_along s start e seed a b) (try_along s start e seed a b)
  unfolding try_along pairs_along stance nothing_spent
  along_pairs seed a b h =
      let f = stance s start e seed a b in
      let long = norm (from_to (node_at start a) (node_at start b)) in
      let short = f.target ≼ tiny_length in
      elim (which (short || long ≼ tiny_length)) [
        | inl z ↦ rw z (rule.refuses nothing_spent start rule.nothing)
        | inr z ↦
            let on : Standing s start P splits f = λ m p c i off. record { a = a; b = b; end = p; share = c; among = i; off = off; long = (or_none short (long ≼ tiny_length) z).1; place = refl } in
            rw z (first_pairs f (side_nodes s first_turn f nothing_spent start a b) refl on (side_nodes_ok s start P splits first_turn f nothing_spent start a b on h) (side_nodes_spent first_turn f nothing_spent start a b rule.nothing))
      ]

  seed_pairs : (seed : ℕ) (c : Cell) → P 0 start → E (pairs_seed s start e seed c) (try_seed s start e seed c)
  unfolding try_seed pairs_seed
  seed_pairs seed (quad q) h = rule.refuses nothing_spent start rule.nothing
  seed_pairs seed (tri t) h =
      elim (lies_left start e t) as (λ left. E (elim left [ true ↦ pairs_along s start e seed e.0 e.1 | false ↦ pairs_along s start e seed e.1 e.0 ])
      (elim left [ true ↦ try_along s start e seed e.0 e.1 | false ↦ try_along s start e seed e.1 e.0 ])) [
        | true ↦ along_pairs seed e.0 e.1 h
        | false ↦ along_pairs seed e.1 e.0 h
      ]

  owner_pairs : (o : Option Live) → P 0 start → E (pairs_owner s start e o) (try_owner s start e o)
  unfolding try_owner pairs_owner
  owner_pairs none h = rule.refuses nothing_spent start rule.nothing
  owner_pairs (some x) h = seed_pairs x.slot x.cell h

  -- the attempt on the edge
  pub attempt_pairs : P 0 start → E (pairs_of s start e) (try_quad s start e)
  unfolding try_quad pairs_of
  attempt_pairs h = owner_pairs (tri_owner start e) h
