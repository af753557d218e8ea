-- Empty rings: the sentinels from t up to c are linked to themselves, and nothing else changed.
use Rattle.std.specs.Prelude.{◌≡◌, ◌+◌, ◌<◌, ◌≤◌}
use Rattle.laws.specs.Kit.{◌∙◌, ℕ, arith, List, length, set, length-set}
use Rattle.laws.specs.Frames.{on, off}
use Rattle.rings.specs.Rings.{nx, pv, Kept, OpenedFrom}
use Rattle.rings.proofs.Lists.{Same, same, differ, decide}

pub record Alone (w : List ℕ) (b n x : ℕ) : Type 0 where
  pub next : nx w b x ≡ x
  pub prev : pv w b n x ≡ x

pub record Opened (w w' : List ℕ) (b n t c : ℕ) : Type 0 where
  pub above : t ≤ c
  pub within : c ≤ n
  pub kept : Kept w w' b n
  pub alone : (x : ℕ) → t ≤ x → x < c → Alone w' b n x

abbrev pub openW : List ℕ → ℕ → ℕ → ℕ → List ℕ
openW w b n c = set (set w (b + c) c) (b + n + c) c

pub open_more : (w₀ w : List ℕ) (b n t c : ℕ) → b + n + n ≤ length w₀ → c < n → Opened w₀ w b n t c → Opened w₀ (openW w b n c) b n t (c + 1)
open_more w₀ w b n t c f h o =
    let w1 = set w (b + c) c in
    let k = o.kept in
    record {
      above = omega (arith, o.above);
      within = omega arith;
      kept = record {
        len = simp length-set k.len;
        low = λ i g. off w1 (b + n + c) c i (omega arith) ∙ off w (b + c) c i (omega arith) ∙ k.low i g;
        high = λ i g. off w1 (b + n + c) c i (omega arith) ∙ off w (b + c) c i (omega arith) ∙ k.high i g;
      };
      alone = λ x l g. go x l g (decide x c);
    }
  where
    go : (x : ℕ) → t ≤ x → x < c + 1 → Same x c → Alone (openW w b n c) b n x
    go x l g (same e) =
        let w1 = set w (b + c) c in
        let l1 : length w1 ≡ length w = simp length-set in
        let l0 : length w ≡ length w₀ = o.kept.len in
        rw e (record {
          next = off w1 (b + n + c) c (b + c) (omega arith) ∙ on w (b + c) c (omega arith);
          prev = on w1 (b + n + c) c (omega arith);
        })
    go x l g (differ e) =
        let w1 = set w (b + c) c in
        let a = o.alone x l (omega arith) in
        record {
          next = off w1 (b + n + c) c (b + x) (omega arith) ∙ off w (b + c) c (b + x) (omega arith) ∙ a.next;
          prev = off w1 (b + n + c) c (b + n + x) (omega arith) ∙ off w (b + c) c (b + n + x) (omega arith) ∙ a.prev;
        }

pub open_done : (w w' : List ℕ) (b n t c : ℕ) → n ≤ c → Opened w w' b n t c → OpenedFrom w w' b n t
open_done w w' b n t c h o =
    record {
      kept = o.kept;
      empty = λ x l g.
          let a = o.alone x l (omega arith) in
          record { linked = (a.next, a.prev); distinct = tt; below = tt; apart = tt; here = g };
    }
