-- `lists::triangles_of`: a list, or none.
use Rattle.std.specs.Prelude.{◌≡◌, Option, Some, None, Result, Ok, Err}
use Rattle.std.specs.Result.{result_unwrap_or}
use mathlib.Core.Path.{refl, ap, ◌∙◌, sym}
use borrow.Author.Rules.{rules}
use Rattle.definition.specs.Lists.{concat, flat_map}
use Rattle.definition.specs.Call.{onto}
use Rattle.refusals.specs.declared.named.Refusal.{Refusal}
use Rattle.small.specs.declared.Mesh.{Mesh}
use Rattle.small.specs.Small.{said}
use Rattle.acceptance.specs.Runs.{nodes_of}
use Rattle.acceptance.specs.Tallies.{listed}
use Rattle.acceptance.proofs.Counting.{like_listed}
use Rattle.acceptance.proofs.lists.triangles_of.Goals as goal

-- a refusal has no list either
no_list : (r : Result (Option Mesh) Refusal) → listed (said r) ≡ listed (said (Ok (result_unwrap_or r None)))
unfolding listed
no_list (Ok l) = refl
no_list (Err e) = refl

pub returns-in-Some : goal.returns-in-Some
unfolding listed
returns-in-Some c = like_listed (no_list c.args.found ∙ ap (λ l. listed (said (Ok l))) (sym c.unwrap_or-list.ensures ∙ c.in-Some.is)) c.nodes_of.ensures

pub returns-in-None : goal.returns-in-None
unfolding listed nodes_of onto concat flat_map
returns-in-None c = like_listed (no_list c.args.found ∙ ap (λ l. listed (said (Ok l))) (sym c.unwrap_or-list.ensures ∙ c.in-None.is)) (record { count = refl; nodes = refl })
