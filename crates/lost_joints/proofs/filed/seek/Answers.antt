-- The places are chunks of two words; those whose numbers are less than k come first.
use Rattle.std.specs.Prelude.{◌≡◌, ℕ, zero, suc, ◌+◌, ◌*◌, ◌/◌, ◌<◌, ltb, List, length, get_or, take, drop}
use Rattle.std.proofs.Common.{ap, ◌∙◌, arith, lt-ltb}
use mathlib.Core.Path.{ap₂}
use native.Mathlib.Omega.{arith}
use Prim.{absurd}
use borrow.Author.Rules.{rules}
use borrow.Author.Tests.{ltb-true, ltb-false}
use lib.Seq.{get_or-drop, get_or-take, length-take-le}
use Rattle.std.specs.Simd.{first_chunks}
use Rattle.std.proofs.lemmas.List.Sorted.{IsPartitionPoint-from_clause}
use Rattle.sorting.specs.Places.{key_at}
use Rattle.lost_joints.proofs.filed.seek.Goals as goal

-- the number of chunk i is that of place i
chunk_key : (m : ℕ) (xs : List ℕ) (i : ℕ) (d : List ℕ) → i < m → key_at (get_or (first_chunks 2 m xs) i d) 0 ≡ key_at xs i
unfolding key_at
chunk_key zero xs i d l = absurd (omega arith)
chunk_key (suc m) xs zero d l = ap₂ (λ a b. a * 4294967296 + b) (get_or-take 2 xs 0 0 (omega arith)) (get_or-take 2 xs 1 0 (omega arith))
chunk_key (suc m) xs (suc i) d l =
    chunk_key m (drop 2 xs) i d (omega arith)
    ∙ ap₂ (λ a b. a * 4294967296 + b) (get_or-drop 2 xs (2 * i) 0 ∙ ap (λ z. get_or xs z 0) (omega arith)) (get_or-drop 2 xs (2 * i + 1) 0 ∙ ap (λ z. get_or xs z 0) (omega arith))

part_key : (n : ℕ) (w : List ℕ) (i : ℕ) → i < n → key_at (take (2 * n) w) i ≡ key_at w i
unfolding key_at
part_key n w i l = ap₂ (λ a b. a * 4294967296 + b) (get_or-take (2 * n) w (2 * i) 0 (omega arith)) (get_or-take (2 * n) w (2 * i + 1) 0 (omega arith))

pub returns : goal.returns
returns c =
    let w = c.args.w.now in
    let n = c.args.n in
    let k = c.args.k in
    let xs = c.as_chunks.result.0.now in
    let long : length (take (2 * n) w) ≡ 2 * n = length-take-le (2 * n) w c.requires.room in
    let size : length xs ≡ n = omega (arith, c.as_chunks.ensures.front_len, long) in
    let half : length (take (2 * n) w) / 2 ≡ n = omega (arith, long) in
    let is : (i : ℕ) (d : List ℕ) → i < n → key_at (get_or xs i d) 0 ≡ key_at w i =
    λ i d l. ap (λ ys. key_at (get_or ys i d) 0) c.as_chunks.ensures.front ∙ chunk_key _ (take (2 * n) w) i d (omega (arith, half)) ∙ part_key n w i l in
    let point = IsPartitionPoint-from_clause (λ y. ltb (key_at y 0) k) xs _ c.partition_point.ensures.partitioned
    (λ i j d l m e. lt-ltb _ _ (omega (arith, is i d (omega (arith, size)), is j d (omega (arith, size)), ltb-true _ _ e, c.requires.ascends i j l (omega (arith, size)))))
    (λ a r q h. search rules) in
    record {
      to = omega (arith, c.partition_point.ensures.bound, size);
      before = λ j l. omega (arith, is j w (omega (arith, c.partition_point.ensures.bound, size)), ltb-true _ _ (point.0 j w (omega arith) l));
      from = λ j l m. omega (arith, is j w m, ltb-false _ _ (point.1 j w l (omega (arith, size))));
    }
