-- What a change of the slice leaves of the area: `framed` says that `Blocks` depends on the area alone.
use Rattle.std.specs.Prelude.{◌≡◌, ◌&&◌, ◌+◌, ◌*◌, ◌<◌, ◌∷◌}
use Rattle.laws.specs.Kit.{refl, sym, ◌∙◌, Bool, true, false, ℕ, arith, ltb, leb, ltb-true, List, [], length}
use Rattle.definition.specs.Plane.{Edge}
use Rattle.blocked_edges.specs.Records.{other, birth, next, head, touched, size, Same, place, Written, Lists, stands}
use Rattle.blocked_edges.specs.Blocks.{Blocks}
use Rattle.blocked_edges.proofs.Edges.{place_below}

pub written_same : (other next other' next' : ℕ → ℕ) (n p : ℕ) (es : List Edge) → ((i : ℕ) → i < length es → other' i ≡ other i) → ((i : ℕ) → i < length es → next' i ≡ next i)
    → Written other next n p es → Written other' next' n p es
written_same other next other' next' n p [] f g h = tt
written_same other next other' next' n p (e ∷ es) f g h = (
  f (length es) (omega arith) ∙ h.0,
  g (length es) (omega arith) ∙ h.1,
  written_same other next other' next' n p es (λ i l. f i (omega arith)) (λ i l. g i (omega arith)) h.2,
)

-- the lists of the records of ever are the same
pub record Links (w w' : List ℕ) (b n p c : ℕ) : Type 0 where
  pub len : length w' ≡ length w
  pub others : (i : ℕ) → i < c → other w' b i ≡ other w b i
  pub nexts : (i : ℕ) → i < c → next w' b n i ≡ next w b n i
  pub heads : (v : ℕ) → v < p → head w' b n v ≡ head w b n v

pub lists_same : (w w' : List ℕ) (b n p : ℕ) (ever : List Edge) → Links w w' b n p (length ever) → Lists w b n p ever → Lists w' b n p ever
lists_same w w' b n p ever k h =
    let l = k.len in
    let f = h.room.fits in
    record {
      room = record { fits = omega arith; few_records = h.room.few_records; few_nodes = h.room.few_nodes };
      count = h.count;
      distinct = h.distinct;
      heads = λ v l. k.heads v l ∙ h.heads v l;
      written = written_same (other w b) (next w b n) (other w' b) (next w' b n) n p ever k.others k.nexts h.written;
    }

-- `stands` reads the birth of one record and `touched` of two nodes
pub stands_same : (w w' : List ℕ) (b n p : ℕ) (ever ever' : List Edge) (e : Edge) → place n e ever' ≡ place n e ever
    → (place n e ever < n → birth w' b n (place n e ever) ≡ birth w b n (place n e ever))
    → touched w' b n p e.0 ≡ touched w b n p e.0 → touched w' b n p e.1 ≡ touched w b n p e.1 → stands w' b n p ever' e ≡ stands w b n p ever e
unfolding stands
stands_same w w' b n p ever ever' e q f g h = rw (q, g, h) (go (ltb (place n e ever) n) refl)
  where
    go : (t : Bool) → ltb (place n e ever) n ≡ t
        → (t && leb (touched w b n p e.0) (birth w' b n (place n e ever)) && leb (touched w b n p e.1) (birth w' b n (place n e ever)))
        ≡ (t && leb (touched w b n p e.0) (birth w b n (place n e ever)) && leb (touched w b n p e.1) (birth w b n (place n e ever)))
    go true s = rw (f (ltb-true (place n e ever) n s))
    go false s = refl

-- `Blocks` depends on its area alone
pub framed : (w w' : List ℕ) (b n p k : ℕ) (ever bl : List Edge) → Same w w' b (size n p) → Blocks w b n p k ever bl → Blocks w' b n p k ever bl
framed w w' b n p k ever bl s h =
    let c = h.lists.count in
    let born : (i : ℕ) → i < length ever → birth w' b n i ≡ birth w b n i = λ i l. s.same (b + n + i) (omega arith) (omega arith) in
    let at : (v : ℕ) → v < p → touched w' b n p v ≡ touched w b n p v = λ v l. s.same (b + 3 * n + p + v) (omega arith) (omega arith) in
    record {
      lists = lists_same w w' b n p ever (record {
        len = s.len;
        others = λ i l. s.same (b + i) (omega arith) (omega arith);
        nexts = λ i l. s.same (b + 2 * n + i) (omega arith) (omega arith);
        heads = λ v l. s.same (b + 3 * n + v) (omega arith) (omega arith);
      }) h.lists;
      quads = h.quads;
      births = λ i l. rw (born i l) (h.births i l);
      touches = λ v l. rw (at v l) (h.touches v l);
      blocked = λ e ie.
          let o = ie.order in
          let m = ie.below in
          h.blocked e ie ∙ sym (stands_same w w' b n p ever ever e refl (λ l. born (place n e ever) (place_below n e ever l)) (at e.0 (omega arith)) (at e.1 m));
    }
