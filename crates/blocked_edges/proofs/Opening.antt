-- `open`: each node below v has an empty list and is untouched.
use Rattle.std.specs.Prelude.{◌≡◌, ◌+◌, ◌*◌, ◌<◌, ◌≤◌}
use Rattle.laws.specs.Kit.{refl, ◌∙◌, inl, inr, ℕ, arith, eqb, lit<, eqb-true, eqb-false, le-ltb, List, length, get_or, set, length-set}
use Rattle.definition.specs.Lists.{any}
use Rattle.definition.specs.Cells.{has_edge_in}
use Rattle.laws.specs.Bools.{which}
use Rattle.laws.specs.Frames.{on, off}
use Rattle.blocked_edges.specs.Records.{head, touched, size, Room, Kept, newest, place, stands}
use Rattle.blocked_edges.specs.Blocks.{OpenTo}

-- the nodes below v are opened
pub record Opened (w₀ w : List ℕ) (b n p v : ℕ) : Type 0 where
  pub kept : Kept w₀ w b (size n p)
  pub within : v ≤ p
  pub heads : (x : ℕ) → x < v → head w b n x ≡ n
  pub touches : (x : ℕ) → x < v → touched w b n p x ≡ 0

abbrev pub openedW : List ℕ → ℕ → ℕ → ℕ → ℕ → List ℕ
openedW w b n p v = set (set w (b + 3 * n + v) n) (b + 3 * n + p + v) 0

pub open_none : (w : List ℕ) (b n p : ℕ) → Opened w w b n p 0
open_none w b n p =
    record {
      kept = record { len = refl; low = λ i l. refl; high = λ i l. refl };
      within = omega arith;
      heads = λ x l. absurd (omega (arith, l));
      touches = λ x l. absurd (omega (arith, l));
    }

module _ (w₀ w : List ℕ) (b n p v : ℕ) (r : Room w₀ b n p) (l : v < p) (o : Opened w₀ w b n p v) where
  long : b + 3 * n + 2 * p ≤ length w
  long = let f = r.fits in let k = o.kept.len in omega arith

  apart : (i : ℕ) → (i ≡ b + 3 * n + v → ⊥) → (i ≡ b + 3 * n + p + v → ⊥) → get_or (openedW w b n p v) i 0 ≡ get_or w i 0
  apart i d e = off (set w (b + 3 * n + v) n) (b + 3 * n + p + v) 0 i e ∙ off w (b + 3 * n + v) n i d

  head_at : (x : ℕ) → x < v + 1 → head (openedW w b n p v) b n x ≡ n
  head_at x h = elim (which (eqb x v)) [
    | inl e ↦ rw (eqb-true x v e) (let f = long in off (set w (b + 3 * n + v) n) (b + 3 * n + p + v) 0 (b + 3 * n + v) (omega arith) ∙ on w (b + 3 * n + v) n (omega arith))
    | inr e ↦ let d = eqb-false x v e in apart (b + 3 * n + x) (omega arith) (omega arith) ∙ o.heads x (omega arith)
  ]

  touched_at : (x : ℕ) → x < v + 1 → touched (openedW w b n p v) b n p x ≡ 0
  touched_at x h = elim (which (eqb x v)) [
    | inl e ↦ rw (eqb-true x v e) (let f = long in let k : length (set w (b + 3 * n + v) n) ≡ length w = simp length-set in on (set w (b + 3 * n + v) n) (b + 3 * n + p + v) 0 (omega arith))
    | inr e ↦ let d = eqb-false x v e in apart (b + 3 * n + p + x) (omega arith) (omega arith) ∙ o.touches x (omega arith)
  ]

  pub open_more : Opened w₀ (openedW w b n p v) b n p (v + 1)
  open_more =
      record {
        kept = record {
          len = simp length-set o.kept.len;
          low = λ i h. apart i (omega arith) (omega arith) ∙ o.kept.low i h;
          high = λ i h. apart i (omega arith) (omega arith) ∙ o.kept.high i h;
        };
        within = omega arith;
        heads = head_at;
        touches = touched_at;
      }

pub open_done : (w₀ w : List ℕ) (b n p v : ℕ) → Room w₀ b n p → p ≤ v → Opened w₀ w b n p v → OpenTo w₀ w b n p
unfolding newest stands place has_edge_in any
open_done w₀ w b n p v r l o =
    let k = o.kept.len in
    let f = r.fits in
    record {
      kept = o.kept;
      blocks = record {
        lists = record {
          room = record { fits = omega arith; few_records = r.few_records; few_nodes = r.few_nodes };
          count = omega arith;
          distinct = tt;
          heads = λ x h. o.heads x (omega arith);
          written = tt;
        };
        quads = lit< tt;
        births = λ i h. absurd (omega (arith, h));
        touches = λ x h. let z = o.touches x (omega arith) in omega arith;
        blocked = λ e h. rw (le-ltb n n (omega arith));
      };
    }
