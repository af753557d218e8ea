-- Births: the first quad of a run was placed in round 1, the next in round 2, and so on.
use Rattle.std.specs.Prelude.{◌≡◌, ◌+◌, ◌∷◌, ◌++◌}
use Rattle.laws.specs.Kit.{refl, sym, ◌∙◌, ap, subst, inl, inr, Bool, true, false, not, some, ℕ, zero, suc, arith, eqb, eqb-true, not-false, List, [], map, append-nil, length, get_or, drop, length-append, length-map}
use Rattle.definition.specs.Lists.{filter, numbers}
use Rattle.definition.specs.Numbers.{Settings}
use Rattle.definition.specs.Plane.{Node, Edge}
use Rattle.definition.specs.Cells.{Tri, Quad, tri, quad, Live, Event, was_flipped, Mesh, new_tri, new_live, is_tri, live_tri, in_slot, all_edges, this_round, with_live, noting, without, among, without_all, set_cell, push_cell, remove_cells}
use Rattle.definition.specs.Flips.{set_tris, flip}
use Rattle.definition.specs.Insertion.{with_point, split_triangle}
use Rattle.definition.specs.Region.{region}
use Rattle.definition.specs.Attempt.{replaced}
use Rattle.definition.specs.Front.{counting, Result, ran, new_mesh, in_slots, start, result, run_front}
use Rattle.laws.specs.Bools.{which}
use Rattle.laws.specs.Lists.{In, in_either, filter_yes, filter_no, filter_append, numbers_length}
use Rattle.account.specs.Flips.{TriAt}
use Rattle.account.proofs.Flips.{flip_made}
use Rattle.account.proofs.FlipKeeps.{own_x, own_y}
use Rattle.account.specs.Valid.{Valid}
use Rattle.account.proofs.Valid.{in_without, one_cell}
use Rattle.account.proofs.Found.{region_slot_tri}
use Rattle.account.specs.Start.{Proper}
use Rattle.account.proofs.Start.{start_valid}
use Rattle.account.specs.Run.{Rule}
use Rattle.account.proofs.Run.{run_ok}
use Rattle.account.specs.Placed.{InRounds, NoQuad, live_quad, quad_cells}

tri_cell : (x : Live) (t : Tri) → x.cell ≡ tri t → live_quad x ≡ false
unfolding live_quad live_tri is_tri
tri_cell x t c = rw c refl

-- triangles taken out leave the quads
taken : (p : Live → Bool) (xs : List Live) → ((x : Live) → In x xs → p x ≡ false → live_quad x ≡ false) → filter live_quad (filter p xs) ≡ filter live_quad xs
unfolding filter
taken p [] h = refl
taken p (x ∷ xs) h = let next = taken p xs (λ y i. h y (inr i)) in elim (which (p x)) [
  | inl e ↦ elim (which (live_quad x)) [ inl f ↦ rw (e, f) (ap (λ l. x ∷ l) next) | inr f ↦ rw (e, f) next ]
  | inr e ↦ rw (e, h x (inl refl) e) next
]

-- a triangle put last adds none
last_tri : (xs : List Live) (id : ℕ) (t : Tri) → filter live_quad (xs ++ (new_live id (tri t) ∷ [])) ≡ filter live_quad xs
unfolding new_live filter
last_tri xs id t =
    filter_append live_quad xs (new_live id (tri t) ∷ []) ∙ ap (λ l. filter live_quad xs ++ l) (filter_no live_quad (new_live id (tri t)) [] (tri_cell (new_live id (tri t)) t refl))
    ∙ append-nil (filter live_quad xs)

set_quads : (m : Mesh) (id : ℕ) (t : Tri) → NoQuad id m.live → quad_cells (set_cell m id (tri t)) ≡ quad_cells m
unfolding quad_cells set_cell with_live without in_slot
set_quads m id t h = last_tri (without id m.live) id t ∙ taken (λ x. not (eqb id x.slot)) m.live (λ x i e. h x i (sym (eqb-true id x.slot (not-false (eqb id x.slot) e))))

new_cell : (i : ℕ) (t : Tri) → (new_live i (tri t)).cell ≡ tri t
unfolding new_live
new_cell i t = refl

set_no_quad : (m : Mesh) (i j : ℕ) (t : Tri) → NoQuad j m.live → NoQuad j (set_cell m i (tri t)).live
unfolding set_cell with_live
set_no_quad m i j t h x k e = elim (in_either x (without i m.live) (new_live i (tri t) ∷ []) k) [
  | inl f ↦ h x (in_without i x m.live f).0 e
  | inr (inl f) ↦ tri_cell x t (ap (λ z. z.cell) f ∙ new_cell i t)
  | inr (inr x3) ↦ elim x3 [ ]
]

-- ---- a flip, a split, a quad
none_there : (m : Mesh) (x : Live) (t : Tri) (p : Node) → Valid m → In x m.live → x.cell ≡ tri t → NoQuad x.slot (with_point m p).live
unfolding with_point
none_there m x t p ok at cell y i g = tri_cell y t (ap (λ z. z.cell) (one_cell m.live y x ok.slots i at g) ∙ cell)

same : (m : Mesh) (p : Node) → quad_cells (with_point m p) ≡ quad_cells m
unfolding quad_cells with_point
same m p = refl

quad_cell : (id : ℕ) (q : Quad) → live_quad (new_live id (quad q)) ≡ true
unfolding live_quad live_tri is_tri new_live
quad_cell id q = refl

noted_quads : (m : Mesh) (v : Event) → quad_cells (noting v m) ≡ quad_cells m
unfolding quad_cells noting
noted_quads m v = refl

pub flip_quads : (m m' : Mesh) (e : Edge) → Valid m → In e (all_edges m) → flip m e ≡ some m' → quad_cells m' ≡ quad_cells m
unfolding quad_cells set_tris
flip_quads m m' e ok at f =
    let w = flip_made m e m' f in
    let hx : NoQuad w.x.slot m.live = λ x i g. tri_cell x w.s (ap (λ z. z.cell) (one_cell m.live x w.x ok.slots i (own_x m e m' ok at w).0 g) ∙ w.cell_x) in
    let hy : NoQuad w.y.slot m.live = λ x i g. tri_cell x w.t (ap (λ z. z.cell) (one_cell m.live x w.y ok.slots i (own_y m e m' ok at w).0 g) ∙ w.cell_y) in
    let m1 = set_cell m w.x.slot (tri w.s') in
    ap quad_cells w.after ∙ noted_quads (set_tris m w.x.slot w.s' w.y.slot w.t') (was_flipped e) ∙ set_quads m1 w.y.slot w.t' (set_no_quad m w.x.slot w.y.slot w.s' hy) ∙ set_quads m w.x.slot w.s' hx

pub split_quads : (m : Mesh) (x : Live) (t : Tri) (p : Node) → Valid m → In x m.live → x.cell ≡ tri t → quad_cells (split_triangle m x.slot t p) ≡ quad_cells m
unfolding quad_cells split_triangle push_cell with_live noting
split_quads m x t p ok at cell =
    let v = length m.points in
    let m1 = set_cell (with_point m p) x.slot (tri (new_tri t.n0 t.n1 v)) in
    let l2 = new_live m1.used (tri (new_tri t.n1 t.n2 v)) in
    last_tri (m1.live ++ (l2 ∷ [])) (suc m1.used) (new_tri t.n2 t.n0 v) ∙ last_tri m1.live m1.used (new_tri t.n1 t.n2 v)
    ∙ set_quads (with_point m p) x.slot (new_tri t.n0 t.n1 v) (none_there m x t p ok at cell) ∙ same m p

none_more : (x : Live) → length (x ∷ filter live_quad []) ≡ 1
unfolding filter
none_more x = refl

quad_placed : (m : Mesh) (seed : ℕ) (q : Quad) (cells : List Live) → Valid m → TriAt m seed → region m seed q ≡ some cells
    → length (quad_cells (replaced m q cells)) ≡ suc (length (quad_cells m))
unfolding quad_cells replaced push_cell remove_cells with_live noting without_all
quad_placed m seed q cells ok sd h =
    let kept = filter (λ x. not (among cells x)) m.live in
    let new = new_live m.used (quad q) in
    let a = filter_append live_quad kept (new ∷ []) in
    let b = taken (λ x. not (among cells x)) m.live (λ x i e. let t = region_slot_tri m seed q cells ok sd h x i (not-false (among cells x) e) in tri_cell x t.0 t.1) in
    let c = filter_yes live_quad new [] (quad_cell m.used q) in
    let one : length (filter live_quad (new ∷ [])) ≡ 1 = ap length c ∙ none_more new in
    omega (arith, ap length a, length-append (filter live_quad kept) (filter live_quad (new ∷ [])), ap length b, one)

-- ---- the run
numbers_last : (a n : ℕ) → numbers a (suc n) ≡ numbers a n ++ ((a + n) ∷ [])
unfolding numbers
numbers_last a zero = ap (λ k. k ∷ []) (omega arith)
numbers_last a (suc n) = ap (λ l. a ∷ l) (numbers_last (suc a) n ∙ ap (λ k. numbers (suc a) n ++ (k ∷ [])) (omega arith))

map_last : (qs : List Quad) (q : Quad) → map (λ q. q.round) (qs ++ (q ∷ [])) ≡ map (λ q. q.round) qs ++ (q.round ∷ [])
map_last [] q = refl
map_last (p ∷ qs) q = ap (λ l. p.round ∷ l) (map_last qs q)

-- every state has them
pub rounds_rule : (s : Settings) → Rule s (λ st es. InRounds st.mesh st.quads) (λ st es n m. InRounds m st.quads) (λ st. InRounds st.mesh st.quads)
unfolding counting this_round quad_cells live_quad
rounds_rule s = record {
  opens = λ st es ok h f. h;
  begins = λ st es h. h;
  flips = λ st es n m m' e ok h i f. record { number = ap length (flip_quads m m' e ok i f) ∙ h.number; rounds = h.rounds };
  splits = λ st es n m x t p ok h w. record { number = ap length (split_quads m x t p ok w.at w.cell) ∙ h.number; rounds = h.rounds };
  refuses = λ st e es why n m h ok w. w;
  places = λ st e es n m q h w.
      let b = w.before.1 in
      let k = length st.quads in
      let l : length (st.quads ++ (q ∷ [])) ≡ suc k = length-append st.quads (q ∷ []) ∙ omega arith in
      let r : q.round ≡ 1 + k = w.in_round ∙ omega (arith, b.number) in
      record {
        number = ap (λ z. length (quad_cells z)) w.after ∙ quad_placed w.mesh w.seed q w.cells w.before.0 w.seed_tri w.reached ∙ omega (arith, b.number, l);
        rounds = map_last st.quads q ∙ (λ i. b.rounds i ++ (r i ∷ [])) ∙ sym (numbers_last 1 k) ∙ ap (numbers 1) (sym l);
      };
  ends = λ st e es n m h ok w. w;
  limits = λ st es h. h;
  empties = λ st h. h;
}

no_quads : (n : ℕ) (ts : List Tri) → filter live_quad (in_slots n ts) ≡ []
unfolding in_slots filter
no_quads n [] = refl
no_quads n (t ∷ ts) = filter_no live_quad (new_live n (tri t)) (in_slots (suc n) ts) (tri_cell (new_live n (tri t)) t (new_cell n t)) ∙ no_quads (suc n) ts

-- at the start there is none
pub start_rounds : (s : Settings) (lk : Edge → Bool) (ts : List Tri) (ps : List Node) → InRounds (start s lk ts ps).mesh []
unfolding start new_mesh quad_cells numbers
start_rounds s lk ts ps = record { number = ap length (no_quads 0 ts); rounds = refl }

same_last : (a b : ℕ) (xs ys : List ℕ) → length xs ≡ length ys → xs ++ (a ∷ []) ≡ ys ++ (b ∷ []) → a ≡ b
same_last a b [] [] l e = ap (λ xs. get_or xs 0 0) e
same_last a b [] (y ∷ ys) l e = absurd (omega arith)
same_last a b (x ∷ xs) [] l e = absurd (omega arith)
same_last a b (x ∷ xs) (y ∷ ys) l e = same_last a b xs ys (omega arith) (ap (drop 1) e)

-- the round of the last quad
pub last_round : (m : Mesh) (qs : List Quad) (q : Quad) → InRounds m (qs ++ (q ∷ [])) → q.round ≡ suc (length qs)
last_round m qs q h =
    let k = length qs in
    let l : length (qs ++ (q ∷ [])) ≡ suc k = length-append qs (q ∷ []) ∙ omega arith in
    let e = sym (map_last qs q) ∙ h.rounds ∙ ap (numbers 1) l ∙ numbers_last 1 k in
    same_last q.round (1 + k) (map (λ q. q.round) qs) (numbers 1 k) (length-map qs (λ q. q.round) ∙ sym (numbers_length 1 k)) e ∙ omega arith

-- the rounds of a finished run's quads
pub quads_in_rounds : (s : Settings) (lk : Edge → Bool) (ts : List Tri) (ps : List Node) (r : Result) → Proper ps ts → run_front s lk ts ps ≡ ran r
    → map (λ q. q.round) r.quads ≡ numbers 1 (length r.quads)
unfolding result start
quads_in_rounds s lk ts ps r h e =
    let w = run_ok s _ _ _ (rounds_rule s) lk ts ps r (start_valid s lk ts ps h, start_rounds s lk ts ps) e in
    subst (λ x. map (λ q. q.round) x.quads ≡ numbers 1 (length x.quads)) (sym w.2) w.1.1.rounds
