-- The definition's reply by what was read.
use mathlib.Core.Path.{◌≡◌, sym, ap, ◌∙◌, subst}
use mathlib.Core.List.{List}
use mathlib.Core.Option.{some}
use Prim.Native.Nat.{ℕ}
use Rattle.definition.specs.Text.{show_refusal, reply}
use Rattle.reading.specs.declared.found.Header.{Header}
use Rattle.std.specs.Prelude.{Option, None, Some}
use Rattle.reading.specs.Whole.{answer, reply_is, input_of, read_as, Kept, kept_if, WholeRead}

module _ {s tris₀ tris bits₀ bits : List ℕ} {r : Option Header} (w : WholeRead s tris₀ tris bits₀ bits r) where
  read_is : {v : Option Header} → r ≡ v → answer (read_as tris bits v) ≡ reply s
  read_is e = ap (λ x. answer (read_as tris bits x)) (sym e) ∙ ap answer w.reads ∙ sym (reply_is s)

  -- not in its form
  pub bad_text : r ≡ None → show_refusal 10 ≡ reply s
  unfolding answer
  bad_text e = read_is e

  -- an input
  pub good_text : {h : Header} → r ≡ Some h → answer (some (input_of h tris bits)) ≡ reply s
  good_text e = read_is e

  -- of few triangles and points
  pub text_kept : {h : Header} → r ≡ Some h → Kept h tris₀ tris bits₀ bits
  text_kept e = subst (λ x. kept_if x tris₀ tris bits₀ bits) e w.kept
