-- The table as it is made: the joints below i are there, and their nodes are marked.
use Rattle.std.specs.Prelude.{◌≡◌, ◌+◌, ◌*◌, ◌%◌, ◌<◌, ◌≤◌}
use Rattle.laws.specs.Kit.{sym, ◌∙◌, ap, ℕ, arith, ℕ_discrete, not-suc-le-zero, List, length, get_or, set, length-set}
use Rattle.definition.specs.Lists.{table, below}
use Rattle.definition.specs.Call.{joint_at}
use Rattle.laws.specs.Cells.{same_ends}
use Rattle.laws.specs.Frames.{on, off}
use Rattle.laws.specs.Tables.{table_ext}
use Rattle.joints.specs.Table.{edge_in, Marked, Kept}
use Rattle.joints.specs.Put.{Put}

-- a word that is not 0 is not 0 after a 1 is stored
one_stays : (j : List ℕ) (i k : ℕ) → i < length j → (get_or j k 0 ≡ 0 → ⊥) → get_or (set j i 1) k 0 ≡ 0 → ⊥
one_stays j i k l h e = elim (ℕ_discrete k i) [
  | yes f ↦ let g : get_or (set j i 1) i 0 ≡ 1 = on j i 1 l in let d : get_or (set j i 1) i 0 ≡ 0 = ap (λ x. get_or (set j i 1) x 0) (sym f) ∙ e in omega arith
  | no f ↦ h (sym (off j i 1 k f) ∙ e)
]

one_there : (j : List ℕ) (i : ℕ) → i < length j → get_or (set j i 1) i 0 ≡ 0 → ⊥
one_there j i l e = let g : get_or (set j i 1) i 0 ≡ 1 = on j i 1 l in omega arith

-- the four stores of a joint
pub put_is : (j : List ℕ) (i u v : ℕ) → 1027 + 2 * i ≤ length j
    → Put j (set (set (set (set j (1025 + 2 * i) u) (1025 + 2 * i + 1) v) (u % 1024) 1) (v % 1024) 1) i (u, v)
put_is j i u v h =
    let at = 1025 + 2 * i in
    let j1 = set j at u in
    let j2 = set j1 (at + 1) v in
    let j3 = set j2 (u % 1024) 1 in
    let j4 = set j3 (v % 1024) 1 in
    let l1 : length j1 ≡ length j = simp length-set in
    let l2 : length j2 ≡ length j = simp length-set in
    let l3 : length j3 ≡ length j = simp length-set in
    let l4 : length j4 ≡ length j = simp length-set in
    let high : (k : ℕ) → 1024 ≤ k → get_or j4 k 0 ≡ get_or j2 k 0 = λ k a. off j3 (v % 1024) 1 k (omega arith) ∙ off j2 (u % 1024) 1 k (omega arith) in
    record {
      len = l4;
      is = same_ends (high at (omega arith) ∙ off j1 (at + 1) v at (omega arith) ∙ on j at u (omega arith)) (let e : 1026 + 2 * i ≡ at + 1 = omega arith in ap (λ k. get_or j4 k 0) e ∙ high (at + 1) (omega arith) ∙ on j1 (at + 1) v (omega arith));
      marked = record {
        first = one_stays j3 (v % 1024) (u % 1024) (omega arith) (one_there j2 (u % 1024) (omega arith));
        second = one_there j3 (v % 1024) (omega arith);
      };
      marks = λ k a d. one_stays j3 (v % 1024) k (omega arith) (one_stays j2 (u % 1024) k (omega arith) (λ e. d (sym (off j1 (at + 1) v k (omega arith) ∙ off j at u k (omega arith)) ∙ e)));
      same = λ k a b. high k a ∙ off j1 (at + 1) v k (omega arith) ∙ off j at u k (omega arith);
    }

-- the first i of n joints of xs are in the table
pub record Begun (j : List ℕ) (xs : List ℕ) (n i : ℕ) : Type 0 where
  pub long : 1537 ≤ length j
  pub count : get_or j 1024 0 ≡ n
  pub are : (k : ℕ) → k < i → edge_in j k ≡ joint_at xs k
  pub marked : (k : ℕ) → k < i → Marked j (edge_in j k)

pub begun_none : (j xs : List ℕ) (n : ℕ) → 1537 ≤ length j → Begun (set j 1024 n) xs n 0
begun_none j xs n h =
    record {
      long = simp length-set h;
      count = on j 1024 n (omega arith);
      are = λ k l. absurd (not-suc-le-zero l);
      marked = λ k l. absurd (not-suc-le-zero l);
    }

-- one more
pub begun_more : (j j' xs : List ℕ) (n i : ℕ) → Begun j xs n i → Put j j' i (joint_at xs i) → Begun j' xs n (i + 1)
begun_more j j' xs n i b p =
    record {
      long = omega (arith, b.long, p.len);
      count = p.same 1024 (omega arith) (omega arith) ∙ b.count;
      are = λ k l. elim (ℕ_discrete k i) [
        | yes e ↦ ap (edge_in j') e ∙ p.is ∙ ap (joint_at xs) (sym e)
        | no d ↦ stays k (omega arith) ∙ b.are k (omega arith)
      ];
      marked = λ k l. elim (ℕ_discrete k i) [
        | yes e ↦ rw (e, p.is) p.marked
        | no d ↦ let h = b.marked k (omega arith) in rw (stays k (omega arith)) (record { first = p.marks _ (omega arith) h.first; second = p.marks _ (omega arith) h.second })
      ];
    }
  where
    stays : (k : ℕ) → k < i → edge_in j' k ≡ edge_in j k
    stays k l = same_ends (p.same (1025 + 2 * k) (omega arith) (omega arith)) (p.same (1026 + 2 * k) (omega arith) (omega arith))

-- all n
pub begun_all : (j xs : List ℕ) (n : ℕ) → n ≤ 256 → Begun j xs n n → Kept j (table (joint_at xs) (below n))
unfolding below
begun_all j xs n h b =
    let e = b.count in
    record {
      long = b.long;
      few = omega arith;
      are = rw e (table_ext (edge_in j) (joint_at xs) 0 n (λ k a l. b.are k (omega arith)));
      marked = λ i l. b.marked i (omega arith);
    }
