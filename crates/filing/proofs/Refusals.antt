-- The number of a mesh's first refusal, and what the call is by it.
use Rattle.std.specs.Prelude.{Result, Ok, Err, IsErrAnd, ◌≡◌, ◌≢◌, ◌||◌, ◌*◌}
use Rattle.laws.specs.Kit.{sym, ◌∙◌, ap, cond, none, ℕ, arith, ltb, ltb-false, length}
use Rattle.definition.specs.Lists.{find}
use Rattle.definition.specs.Call.{unknown_node, repeated_node, far_point, most_given}
use Rattle.laws.specs.Bools.{or_none}
use Rattle.refusals.specs.Passed.{known}
use Rattle.refusals.specs.Refusals.{number_of, turn, no_turn, not_taken, some_found}
use Rattle.filing.specs.Filing.{Refused}
use Rattle.filing.specs.Filing.{Mesh, asked, lent, over_limit, too_short, triangle_words, conditions, refused, filed, untouched, call}
use Rattle.std.specs.declared.cmp.Ordering.{Ordering}
use Rattle.refusals.specs.declared.named.Refusal.{Refusal}
use Rattle.refusals.specs.Numbers.{number, number_positive}
use Rattle.filing.specs.Promise.{answered, returned, Readable}
use Rattle.filing.specs.Refusals.{Clear}

module _ (m : Mesh) where
  -- one condition after the other
  pub in_turn : number_of (refused m)
      ≡ cond (over_limit m) 1
      (cond (too_short m) 4
      (cond (unknown_node (asked m) (lent m)) 5
      (cond (repeated_node (asked m) (lent m)) 6
      (cond (far_point (asked m) (lent m)) 7 0))))
  unfolding refused conditions
  in_turn = simp (turn, no_turn)

module _ (m : Mesh) (zero_is : number_of (refused m) ≡ 0) where
  pub clear : Clear m
  clear =
      let h1 = not_taken (over_limit m) 1 _ (omega arith) (sym (in_turn m) ∙ zero_is) in
      let h4 = not_taken (too_short m) 4 _ (omega arith) h1.1 in
      let h5 = not_taken (unknown_node (asked m) (lent m)) 5 _ (omega arith) h4.1 in
      let h6 = not_taken (repeated_node (asked m) (lent m)) 6 _ (omega arith) h5.1 in
      let h7 = not_taken (far_point (asked m) (lent m)) 7 0 (omega arith) h6.1 in
      record { c1 = h1.0; c4 = h4.0; c5 = h5.0; c6 = h6.0; c7 = h7.0 }

  pub none_holds : refused m ≡ none
  unfolding refused find conditions
  none_holds = rw (clear.c1, clear.c4, clear.c5, clear.c6, clear.c7)

  -- what the order needs of a mesh that passed
  pub readable : Readable m.given m.count m.points m.triangles m.work
  unfolding over_limit too_short triangle_words most_given
  readable =
      let l = or_none (ltb 4096 m.count) (ltb 4096 m.given) clear.c1 in
      let g = ltb-false 4096 m.given l.1 in
      let h = or_none (ltb (length m.points) (3 * m.given) || ltb (length m.triangles) (3 * m.count)) (ltb (length m.work) (4 * m.count)) clear.c4 in
      let k = or_none (ltb (length m.points) (3 * m.given)) (ltb (length m.triangles) (3 * m.count)) h.0 in
      let n = known (asked m) (lent m) clear.c5 in
      record {
        points = ltb-false (length m.points) (3 * m.given) k.0;
        triangles = ltb-false (length m.triangles) (3 * m.count) k.1;
        work = ltb-false (length m.work) (4 * m.count) h.1;
        nodes = λ i a. (let v = n i a in omega arith);
      }

-- a refusal that is handed on as it is
handed_on : (r : Result Ordering Refusal) (k : Refusal) → IsErrAnd r (λ e. e ≡ k) → answered r ≡ Refused (number k)
handed_on (Ok o) k h = absurd h
handed_on (Err e) k h = ap (λ e. Refused (number e)) h

module _ (a b : Mesh) where
  -- a refusal is the whole answer, and nothing is touched; the first mesh's comes first
  pub first_refused : (k : ℕ) → k ≡ number_of (refused a) → k ≢ 0 → record { answer = Refused k; first_work = a.work; second_work = b.work } ≡ call a b
  unfolding call number_of untouched
  first_refused k e h =
      let f = some_found (refused a) (λ q. h (e ∙ q)) in
      let g : call a b ≡ untouched (number_of (refused a)) a b = rw (f.1, call) in
      ap (λ z. record { answer = Refused z; first_work = a.work; second_work = b.work }) e ∙ sym g

  pub second_refused : number_of (refused a) ≡ 0 → (k : ℕ) → k ≡ number_of (refused b) → k ≢ 0 → record { answer = Refused k; first_work = a.work; second_work = b.work } ≡ call a b
  unfolding call number_of untouched
  second_refused z k e h =
      let f = some_found (refused b) (λ q. h (e ∙ q)) in
      let g : call a b ≡ untouched (number_of (refused b)) a b = rw (none_holds a z, f.1, call) in
      ap (λ z. record { answer = Refused z; first_work = a.work; second_work = b.work }) e ∙ sym g

  -- what `?` hands on is the whole answer
  pub first_returned : (r : Result Ordering Refusal) (k : Refusal) → IsErrAnd r (λ e. e ≡ k) → number k ≡ number_of (refused a) → returned r a.work b.work ≡ call a b
  first_returned r k h e =
      ap (λ z. record { answer = z; first_work = a.work; second_work = b.work }) (handed_on r k h) ∙ first_refused (number k) e (λ q. let p = number_positive k in omega arith)

  pub second_returned : number_of (refused a) ≡ 0 → (r : Result Ordering Refusal) (k : Refusal) → IsErrAnd r (λ e. e ≡ k) → number k ≡ number_of (refused b) → returned r a.work b.work ≡ call a b
  second_returned z r k h e =
      ap (λ z. record { answer = z; first_work = a.work; second_work = b.work }) (handed_on r k h) ∙ second_refused z (number k) e (λ q. let p = number_positive k in omega arith)

  -- where both meshes pass, the answer is their order
  pub both_filed : number_of (refused a) ≡ 0 → number_of (refused b) ≡ 0 → call a b ≡ filed a b
  unfolding call
  both_filed e f = rw (none_holds a e, none_holds b f, call)
