-- The code's arguments and answers in the definition's words, and what its functions promise.
use Rattle.std.specs.Prelude.{Result, Ok, Err, ◌≡◌, ◌+◌, ◌*◌, ◌<◌, ◌≤◌}
use Rattle.laws.specs.Kit.{ℕ, List, length, get_or, Float}
use Rattle.std.proofs.lemmas.List.Edits.{sets}
use Rattle.definition.specs.Lists.{flat_map}
use Rattle.definition.specs.Metrics.{Metrics}
use Rattle.definition.specs.Call.{onto}
use Rattle.definition.specs.Sheet as defined
use Rattle.definition.specs.Sheet.{Listed, Returned, filed, refusal, sheet_of, sheet, line, all_metrics}
use Rattle.refusals.specs.declared.named.Refusal.{Refusal}
use Rattle.refusals.specs.Numbers.{number}
use Rattle.sheet_steps.specs.Values.{worst_in}
use Rattle.sheet.specs.declared.answers.Sheet.{Sheet}

-- what is handed in
abbrev pub listed : ℕ → ℕ → List Float → List ℕ → List Float → Listed
listed given count points quads out = record { given = given; count = count; points = points; quads = quads; out = out }

-- the sheet as the code has it
abbrev pub sheet_in : Sheet → defined.Sheet
sheet_in r = record { counts = r.counts; jacobian = worst_in r.jacobian; cosine = worst_in r.cosine }

-- 0 where there is a sheet, otherwise the refusal's number
unfoldable pub number_of : defined.Answer → ℕ
number_of (filed s) = 0
number_of (refusal k) = k

-- the code's answer in the definition's words
abbrev pub answer_in : Result Sheet Refusal → defined.Answer
answer_in (Ok r) = filed (sheet_in r)
answer_in (Err r) = refusal (number r)

-- what the definition's call returned is what came back: r, and `out` as it is at exit
pub record Returns (x : Returned) (r : Result Sheet Refusal) (exit : List Float) : Type 0 where
  pub answer : answer_in r ≡ x.answer
  pub out : exit ≡ x.out

-- the four corners of quad i are below n
pub record Corners (n : ℕ) (qs : List ℕ) (i : ℕ) : Type 0 where
  pub c0 : get_or qs (8 * i) 0 < n
  pub c1 : get_or qs (8 * i + 1) 0 < n
  pub c2 : get_or qs (8 * i + 2) 0 < n
  pub c3 : get_or qs (8 * i + 3) 0 < n

-- what no test refuses: the slices are as long as the numbers need, and every corner is one of the points
pub record Readable (l : Listed) : Type 0 where
  pub points : 3 * l.given ≤ length l.points
  pub quads : 8 * l.count ≤ length l.quads
  pub out : 2 * l.count ≤ length l.out
  pub few : l.count ≤ 16384
  pub corners : (i : ℕ) → i < l.count → Corners l.given l.quads i

-- the sheet of what no test refuses
pub record Fills (l : Listed) (r : Sheet) (exit : List Float) : Type 0 where
  pub sheet : sheet_in r ≡ sheet (all_metrics l)
  pub out : exit ≡ onto (flat_map line (all_metrics l)) l.out

-- a quad's two numbers in line i
abbrev pub Line : Metrics → ℕ → List Float → List Float → Type 0
Line m i old new = new ≡ sets old (2 * i) (line m)
