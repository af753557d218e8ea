-- What is written is what the call returned.
use mathlib.Core.Path.{◌≡◌, refl, sym, ap, ◌∙◌}
use mathlib.Core.List.{List}
use Prim.{absurd}
use Prim.Native.Nat.{ℕ, ◌≤◌, ◌<◌}
use native.Mathlib.Omega.{arith}
use lib.Ieee.{Float}
use Rattle.definition.specs.Counts as def
use Rattle.definition.specs.Call.{finished, refusal, Returned}
use Rattle.definition.specs.Call as call
use Rattle.definition.specs.Text.{show_lists, show_refusal, show_answer, show_returned}
use Rattle.writing.specs.Answer.{shown, only_shown}
use Rattle.mesher.specs.Promise.{Reply, number_of, counts_in, lengths_in}
use Rattle.replies.specs.Tells.{Left}

-- the lengths of a run without a trace
abbrev pub untraced : call.Lengths → call.Lengths
untraced n = record { quads = n.quads; triangles = n.triangles; points = n.points; components = n.components; words = 0 }

module _ {x : Returned} {a : Reply} {points : List Float} {quads triangles components : List ℕ} (given : List (List ℕ)) (h : Left x a points quads triangles components) where
  by_number : (w : call.Answer) → x.answer ≡ w → 0 < a.refusal → show_refusal a.refusal ≡ show_answer given x.lent w
  unfolding show_answer number_of
  by_number (finished c n) e p = absurd (let z : a.refusal ≡ 0 = h.answer.number ∙ ap number_of e in omega arith)
  by_number (refusal k) e p = ap show_refusal (h.answer.number ∙ ap number_of e)

  -- a refusal
  pub refused_shown : 0 < a.refusal → show_refusal a.refusal ≡ show_returned given x
  unfolding show_returned
  refused_shown p = by_number x.answer refl p

  shown_left : shown x.lent.points x.lent.quads x.lent.triangles_out x.lent.components ≡ shown points quads triangles components
  shown_left = cc (h.points_left, h.quads_left, h.triangles_left, h.components_left)

  by_lists : (w : call.Answer) → x.answer ≡ w → a.refusal ≤ 0 → show_lists given (counts_in a) (lengths_in a) (shown points quads triangles components) ≡ show_answer given x.lent w
  unfolding show_answer number_of call.counts_of call.lengths_of
  by_lists (finished c n) e p =
      ap (λ z. show_lists given z (lengths_in a) (shown points quads triangles components)) (h.answer.counts ∙ ap call.counts_of e)
      ∙ ap (λ z. show_lists given c z (shown points quads triangles components)) (h.answer.lengths ∙ ap call.lengths_of e)
      ∙ ap (λ z. show_lists given c n z) (sym shown_left)
      ∙ sym (only_shown given c n x.lent)
  by_lists (refusal k) e p = absurd (let z : a.refusal ≡ k = h.answer.number ∙ ap number_of e in let q = h.named k e in omega arith)

  -- the words of a trace are never looked at
  words_unseen : (c : def.Counts) (n : call.Lengths) (l : call.Lent) → show_lists given c (untraced n) l ≡ show_lists given c n l
  unfolding show_lists
  words_unseen c n l = refl

  -- a finished run
  pub finished_shown : (c : def.Counts) (n : call.Lengths) → a.refusal ≤ 0 → c ≡ counts_in a → n ≡ untraced (lengths_in a)
      → show_lists given c n (shown points quads triangles components) ≡ show_returned given x
  unfolding show_returned
  finished_shown c n p e f =
      ap (λ z. show_lists given z n (shown points quads triangles components)) e
      ∙ ap (λ z. show_lists given (counts_in a) z (shown points quads triangles components)) f
      ∙ words_unseen (counts_in a) (lengths_in a) (shown points quads triangles components)
      ∙ by_lists x.answer refl p
