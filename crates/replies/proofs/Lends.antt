-- The call that the program makes for an input that was read.
use mathlib.Core.Path.{◌≡◌, sym, ap, ◌∙◌}
use mathlib.Core.Bool.{false}
use mathlib.Core.List.{List, [], map}
use Prim.Native.Nat.{ℕ, ◌*◌}
use lib.ListN.{length, take, replicate}
use lib.Ieee.{Float}
use Rattle.definition.specs.Lists.{concat, rows}
use Rattle.definition.specs.Floats.{f64, 0·0}
use Rattle.definition.specs.Numbers.{base}
use Rattle.definition.specs.Call.{Asked, Lent, onto, slot_words, point_words, slot_floats, call}
use Rattle.definition.specs.Text.{lent_points, lent_slots, asked, lent_for, show_returned}
use Rattle.reading.specs.declared.found.Header.{Header}
use Rattle.reading.specs.Whole.{input_of, answer, triangle_count, point_count, triangle_words, point_words as point_numbers}
use mathlib.Core.Option.{some}
use Rattle.refusals.specs.Stated.{asked_for}
use Rattle.mesher.specs.Promise.{lent_of}
use Rattle.replies.specs.Tells.{filled}

-- what the program asks
abbrev pub asks : Header → Asked
asks h = asked_for h.points 96 h.triangles 160 0 (f64 h.size) h.stop base false

-- what it lends, with these points and triangles
abbrev pub lending : List Float → List ℕ → Lent
lending ps ts = lent_of ps ts [] (replicate 1280 0) (replicate 480 0) (replicate 160 0) (replicate 11008 0) (replicate 640 0·0) []

-- for the header and the two slices that were read
abbrev pub lends : Header → List ℕ → List ℕ → Lent
lends h tris bits = lending (filled (3 * h.points) bits (replicate 288 0·0)) (take (3 * h.triangles) tris)

module _ (h : Header) (tris bits : List ℕ) where
  asks_is : asked (input_of h tris bits) ≡ asks h
  unfolding asked lent_points lent_slots input_of
  asks_is =
      ap (λ n. asked_for n 96 (length (input_of h tris bits).triangles) 160 0 (f64 h.size) h.stop base false) (point_count h tris bits)
      ∙ ap (λ n. asked_for h.points 96 n 160 0 (f64 h.size) h.stop base false) (triangle_count h tris bits)

  lends_is : lent_for (input_of h tris bits) ≡ lends h tris bits
  unfolding lent_for lent_points lent_slots filled slot_words point_words slot_floats
  lends_is =
      ap (λ ps. lending (onto (map f64 ps) (replicate 288 0·0)) (concat (input_of h tris bits).triangles)) (point_numbers h tris bits)
      ∙ ap (λ ts. lending (filled (3 * h.points) bits (replicate 288 0·0)) ts) (triangle_words h tris bits)

  -- the reply goes by that call
  pub answer_is : show_returned (rows 3 h.points bits) (call (asks h) (lends h tris bits)) ≡ answer (some (input_of h tris bits))
  unfolding answer input_of
  answer_is = sym (ap (λ a. show_returned (rows 3 h.points bits) (call a (lent_for (input_of h tris bits)))) asks_is ∙ ap (λ l. show_returned (rows 3 h.points bits) (call (asks h) l)) lends_is)
