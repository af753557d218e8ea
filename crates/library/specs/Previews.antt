-- The promise of the exported preview: the preview of the definition,
-- with what it shows as twelve numbers in a slice of their own.
use Rattle.std.specs.Prelude.{◌≡◌, List, ℕ, ◌<◌, ◌≤◌, length}
use Rattle.definition.specs.Call.{Asked, Lent, onto}
use Rattle.definition.specs.Preview.{Previewed, preview}
use Rattle.answer_numbers.specs.Previews.{shown_numbers, refusal_number}
use Rattle.library.specs.Exported.{Short}

-- With room for the numbers: what x shows comes to the front of the slice, a refusal leaves it as it was,
-- and all that is lent is as x leaves it.
pub record Shows (x : Previewed) (old : List ℕ) (k : ℕ) (new : List ℕ) (exit : Lent) : Type 0 where
  pub number : k ≡ refusal_number x.shown
  pub answer : new ≡ onto (shown_numbers x.shown) old
  pub lent : exit ≡ x.lent

-- k is returned of a preview of the edge between u and v that states a and lends l,
-- with `old` in the answer's slice; `new` and `exit` are there then
pub record ExportedPreview (a : Asked) (l : Lent) (u v : ℕ) (old : List ℕ) (k : ℕ) (new : List ℕ) (exit : Lent) : Type 0 where
  pub roomy : 12 ≤ length old → Shows (preview a l u v) old k new exit
  pub short : length old < 12 → Short a l old k new exit
