-- The two walks over triangles end because their work is done: no slot is taken twice,
use Rattle.std.specs.Prelude.{◌≡◌, ◌≢◌, ◌&&◌, ◌+◌, ◌≤◌, ◌∷◌, ◌++◌}
use Rattle.laws.specs.Kit.{refl, sym, ◌∙◌, ap, subst, inl, inr, true, false, not, Option, none, some, ℕ, zero, suc, arith, eq-eqb, not-true, List, [], foldl, append_assoc, length, length-append, Float}
use Rattle.definition.specs.Lists.{any}
use Rattle.definition.specs.Plane.{Node, Edge}
use Rattle.definition.specs.Cells.{Live, Mesh, live_tri, in_slot, cell_of, without, among}
use Rattle.definition.specs.Candidates.{in_reach, neighbours, on_top, live_region_from, seed_stack, live_region}
use Rattle.definition.specs.Region.{reach, reach_all, across, flood}
use Rattle.laws.specs.Bools.{which, both, never, cond_ok}
use Rattle.laws.specs.Lists.{In, in_either, in_any, known, in_left, no_some}
use Rattle.account.specs.Valid.{Slots, Valid}
use Rattle.account.proofs.Valid.{slots_filter, slots_last, in_without}
use Rattle.account.specs.Found.{AllLive, AllTris}
use Rattle.account.proofs.Found.{cell_live, neighbours_live, reach_adds, across_live}
use Rattle.account.proofs.Fits.{slots_number}
use Rattle.account.specs.Floods.{Flooding, Unlike, Walking}

slots_both : (xs ys : List Live) → Slots xs → Slots ys → Unlike xs ys → Slots (xs ++ ys)
slots_both [] ys h k u = k
slots_both (x ∷ xs) ys h k u = (λ y i. elim (in_either y xs ys i) [ inl j ↦ h.0 y j | inr j ↦ u x y (inl refl) j ], slots_both xs ys h.1 k (λ a b i j. u a b (inr i) j))

-- a cell that is not among the list has a slot of its own
not_among : (xs : List Live) (y : Live) → among xs y ≡ false → (x : Live) → In x xs → x.slot ≢ y.slot
unfolding among in_slot
not_among xs y h x i e = never (any (in_slot y.slot) xs) (in_any (in_slot y.slot) xs (x, i, eq-eqb y.slot x.slot (sym e))) h

-- they are no more than the slots in use
pub walking_room : (m : Mesh) (seen stack : List Live) → Valid m → Walking m seen stack → length seen + length stack ≤ m.used
walking_room m seen stack ok w =
    let k = slots_number (seen ++ stack) m.used (slots_both seen stack w.seen_slots w.stack_slots w.unlike)
    (λ x i. ok.given x (elim (in_either x seen stack i) [ inl j ↦ (w.seen_tris x j).0 | inr j ↦ (w.stack_tris x j).0 ])) in
    omega (arith, k, length-append seen stack)

pub walking_top : (m : Mesh) (seen stack : List Live) (y : Live) → In y m.live → Walking m seen stack → Walking m seen (on_top seen stack y)
unfolding on_top without
walking_top m seen stack y at w =
    cond_ok (λ l. Walking m seen l) (live_tri y && not (among seen y)) (y ∷ without y.slot stack) stack
    (λ e.
    let g = both (live_tri y) (not (among seen y)) e in
    let old : (z : Live) → In z (without y.slot stack) → In z stack × (z.slot ≢ y.slot) = λ z i. in_without y.slot z stack i in
    record {
      seen_slots = w.seen_slots;
      stack_slots = (λ z i f. (old z i).1 (sym f), slots_filter _ stack w.stack_slots);
      unlike = λ a b i j. elim j [ inl f ↦ λ h. not_among seen y (not-true (among seen y) g.1) a i (h ∙ ap (λ z. z.slot) f) | inr k ↦ w.unlike a b i (old b k).0 ];
      seen_tris = w.seen_tris;
      stack_tris = λ z i. elim i [ inl f ↦ subst (λ x. In x m.live × (live_tri x ≡ true)) (sym f) (at, g.0) | inr j ↦ w.stack_tris z (old z j).0 ];
    }) (λ e. w)

pub walking_tops : (m : Mesh) (seen stack ys : List Live) → AllLive m ys → Walking m seen stack → Walking m seen (foldl (on_top seen) stack ys)
walking_tops m seen stack [] h w = w
walking_tops m seen stack (y ∷ ys) h w = walking_tops m seen (on_top seen stack y) ys (λ z i. h z (inr i)) (walking_top m seen stack y (h y (inl refl)) w)

-- a cell taken from the stack is seen
pub walking_next : (m : Mesh) (seen : List Live) (x : Live) (stack : List Live) → Walking m seen (x ∷ stack) → Walking m (x ∷ seen) stack
walking_next m seen x stack w = record {
  seen_slots = (λ y i e. w.unlike y x i (inl refl) (sym e), w.seen_slots);
  stack_slots = w.stack_slots.1;
  unlike = λ a b i j. elim i [ inl f ↦ λ h. w.stack_slots.0 b j (sym (ap (λ z. z.slot) f) ∙ h) | inr k ↦ w.unlike a b k (inr j) ];
  seen_tris = λ y i. elim i [ inl f ↦ w.stack_tris y (inl f) | inr j ↦ w.seen_tris y j ];
  stack_tris = λ y i. w.stack_tris y (inr i);
}

-- a step of the walk, with its neighbours on the stack
pub walking_step : (m : Mesh) (seen : List Live) (x : Live) (stack : List Live) → Walking m seen (x ∷ stack)
    → Walking m (x ∷ seen) (foldl (on_top (x ∷ seen)) stack (neighbours m x))
walking_step m seen x stack w = walking_tops m (x ∷ seen) stack (neighbours m x) (neighbours_live m x) (walking_next m seen x stack w)

region_enough : (n k : ℕ) (m : Mesh) (o : Node) (r : Float) (out seen stack : List Live) → Valid m → Walking m seen stack → m.used ≤ n + length seen → n ≤ k
    → live_region_from k m o r out seen stack ≡ live_region_from n m o r out seen stack
unfolding live_region_from
region_enough zero zero m o r out seen stack ok w l h = refl
region_enough zero (suc k) m o r out seen [] ok w l h = refl
region_enough zero (suc k) m o r out seen (x ∷ stack) ok w l h = absurd (let g = walking_room m seen (x ∷ stack) ok w in omega arith)
region_enough (suc n) zero m o r out seen stack ok w l h = absurd (omega arith)
region_enough (suc n) (suc k) m o r out seen [] ok w l h = refl
region_enough (suc n) (suc k) m o r out seen (x ∷ stack) ok w l h = elim (which (in_reach m o r x.cell)) [
  | inl e ↦
      rw (e, live_region_from)
      (region_enough n k m o r (out ++ (x ∷ [])) (x ∷ seen) (foldl (on_top (x ∷ seen)) stack (neighbours m x)) ok (walking_step m seen x stack w) (omega arith) (omega arith))
  | inr e ↦ rw (e, live_region_from) (region_enough n k m o r out (x ∷ seen) stack ok (walking_next m seen x stack w) (omega arith) (omega arith))
]

-- the stack at the start
pub walking_start : (m : Mesh) (seed : ℕ) → Walking m [] (seed_stack (cell_of m seed))
unfolding seed_stack
walking_start m seed = by (cell_of m seed) (λ x e. (cell_live m seed x e).0) where
  by : (o : Option Live) → ((x : Live) → o ≡ some x → In x m.live) → Walking m [] (seed_stack o)
  by none h = record { seen_slots = tt; stack_slots = tt; unlike = λ a b i j. absurd i; seen_tris = λ y i. absurd i; stack_tris = λ y i. absurd i }
  by (some x) h = walking_top m [] [] x (h x refl) (record { seen_slots = tt; stack_slots = tt; unlike = λ a b i j. absurd i; seen_tris = λ y i. absurd i; stack_tris = λ y i. absurd i })

-- more visits than slots in use find no more
pub live_region_ends : (n : ℕ) (m : Mesh) (seed : ℕ) (o : Node) (r : Float) → Valid m → m.used ≤ n
    → live_region_from n m o r [] [] (seed_stack (cell_of m seed)) ≡ live_region m seed o r
unfolding live_region
live_region_ends n m seed o r ok l = region_enough m.used n m o r [] [] (seed_stack (cell_of m seed)) ok (walking_start m seed) (omega arith) l

pub flooding_room : (m : Mesh) (done todo : List Live) → Valid m → Flooding m done todo → length done + length todo ≤ m.used
flooding_room m done todo ok w = omega (arith, slots_number (done ++ todo) m.used w.slots (λ x i. ok.given x (w.tris x i).0), length-append done todo)

flooding_reach : (m : Mesh) (done todo : List Live) (y : Live) (todo' : List Live) → In y m.live → reach done todo y ≡ some todo' → Flooding m done todo
    → Flooding m done todo'
flooding_reach m done todo y todo' at e w = elim (reach_adds done todo y todo' e) [
  | inl f ↦ subst (λ l. Flooding m done l) (sym f) w
  | inr f ↦ subst (λ l. Flooding m done l) (sym f.0) (record {
    slots = subst (λ l. Slots l) (append_assoc done todo (y ∷ [])) (slots_last (done ++ todo) y w.slots (λ z i. not_among (done ++ todo) y f.2 z i));
    tris =
        subst (λ l. AllTris m l) (append_assoc done todo (y ∷ []))
        (λ z i. elim (in_either z (done ++ todo) (y ∷ []) i) [ inl j ↦ w.tris z j | inr (inl g) ↦ subst (λ x. In x m.live × (live_tri x ≡ true)) (sym g) (at, f.1) | inr (inr x3) ↦ elim x3 [ ] ]);
  })
]

flooding_all : (m : Mesh) (done todo ys todo' : List Live) → AllLive m ys → reach_all done todo ys ≡ some todo' → Flooding m done todo → Flooding m done todo'
unfolding reach_all
flooding_all m done todo [] todo' h e w = let f : todo ≡ todo' = cc in subst (λ l. Flooding m done l) f w
flooding_all m done todo (y ∷ ys) todo' h e w = elim (known (reach done todo y)) [
  | inl f ↦ absurd (let g : none ≡ some todo' = rw (f, reach_all) at e in let z : ◌≡◌ {A = ℕ} 0 1 = cc in omega arith)
  | inr f ↦ flooding_all m done f.0 ys todo' (λ z i. h z (inr i)) (rw (f.1, reach_all) at e) (flooding_reach m done todo y f.0 (h y (inl refl)) f.1 w)
]

-- a step of the flood
pub flooding_step : (m : Mesh) (sides : List Edge) (done : List Live) (x : Live) (todo todo' : List Live) → Flooding m done (x ∷ todo)
    → reach_all (done ++ (x ∷ [])) todo (across m sides x) ≡ some todo' → Flooding m (done ++ (x ∷ [])) todo'
flooding_step m sides done x todo todo' w e =
    flooding_all m (done ++ (x ∷ [])) todo (across m sides x) todo' (across_live m sides x) e
    (record { slots = subst (λ l. Slots l) (sym (append_assoc done (x ∷ []) todo)) w.slots; tris = subst (λ l. AllTris m l) (sym (append_assoc done (x ∷ []) todo)) w.tris })

flood_enough : (n k : ℕ) (m : Mesh) (sides : List Edge) (done todo : List Live) → Valid m → Flooding m done todo → m.used ≤ n + length done → n ≤ k
    → flood k m sides done todo ≡ flood n m sides done todo
unfolding flood
flood_enough zero zero m sides done todo ok w l h = refl
flood_enough zero (suc k) m sides done [] ok w l h = refl
flood_enough zero (suc k) m sides done (x ∷ todo) ok w l h = absurd (let g = flooding_room m done (x ∷ todo) ok w in omega arith)
flood_enough (suc n) zero m sides done todo ok w l h = absurd (omega arith)
flood_enough (suc n) (suc k) m sides done [] ok w l h = refl
flood_enough (suc n) (suc k) m sides done (x ∷ todo) ok w l h = elim (known (reach_all (done ++ (x ∷ [])) todo (across m sides x))) [
  | inl e ↦ rw (e, flood) refl
  | inr e ↦
      rw (e.1, flood)
      (flood_enough n k m sides (done ++ (x ∷ [])) e.0 ok (flooding_step m sides done x todo e.0 w e.1) (omega (arith, length-append done (x ∷ []))) (omega arith))
]

-- the seed alone
pub flooding_start : (m : Mesh) (x : Live) → In x m.live → live_tri x ≡ true → Flooding m [] (x ∷ [])
flooding_start m x at e = record { slots = (λ y i. absurd i, tt); tris = λ y i. elim i [ inl f ↦ subst (λ z. In z m.live × (live_tri z ≡ true)) (sym f) (at, e) | inr x'' ↦ elim x'' [ ] ] }

-- more crossings than slots in use reach no more
pub flood_ends : (n : ℕ) (m : Mesh) (sides : List Edge) (x : Live) → Valid m → In x m.live → live_tri x ≡ true → m.used ≤ n
    → flood n m sides [] (x ∷ []) ≡ flood m.used m sides [] (x ∷ [])
flood_ends n m sides x ok at e l = flood_enough m.used n m sides [] (x ∷ []) ok (flooding_start m x at e) (omega arith) l

slots_first : (xs ys : List Live) → Slots (xs ++ ys) → Slots xs
slots_first [] ys h = tt
slots_first (x ∷ xs) ys h = (λ y i. h.0 y (in_left y xs ys i), slots_first xs ys h.1)

pub flood_slots : (n : ℕ) (m : Mesh) (sides : List Edge) (done todo cells : List Live) → Flooding m done todo → flood n m sides done todo ≡ some cells → Slots cells
unfolding flood
flood_slots zero m sides done todo cells w e = let f : done ≡ cells = cc in subst (λ l. Slots l) f (slots_first done todo w.slots)
flood_slots (suc n) m sides done [] cells w e = let f : done ≡ cells = cc in subst (λ l. Slots l) f (slots_first done [] w.slots)
flood_slots (suc n) m sides done (x ∷ todo) cells w e = elim (known (reach_all (done ++ (x ∷ [])) todo (across m sides x))) [
  | inl f ↦ no_some cells (rw (f, flood) at e)
  | inr f ↦ flood_slots n m sides (done ++ (x ∷ [])) f.0 cells (flooding_step m sides done x todo f.0 w f.1) (rw (f.1, flood) at e)
]
