-- Every quad of a run was a rated trial: by the points of the end, as points never change,
use Rattle.std.specs.Prelude.{◌≡◌, ◌∷◌, ◌++◌}
use Rattle.laws.specs.Kit.{sym, ◌∙◌, ap, subst, inl, inr, Bool, List, []}
use Rattle.definition.specs.Numbers.{Settings, Quality}
use Rattle.definition.specs.Plane.{Edge, Node}
use Rattle.definition.specs.Cells.{Tri, Quad}
use Rattle.definition.specs.Front.{counting, Result, ran, start, result, run_front}
use Rattle.laws.specs.Lists.{In, in_either}
use Rattle.account.proofs.Flips.{flip_points}
use Rattle.account.proofs.QuadKeeps.{replaced_points}
use Rattle.account.specs.Rated.{Rated}
use Rattle.account.proofs.Rated.{rated_more}
use Rattle.account.specs.Start.{Proper}
use Rattle.account.proofs.Start.{start_valid}
use Rattle.account.proofs.Steps.{split_grows}
use Rattle.account.specs.Run.{Rule}
use Rattle.account.proofs.Run.{run_ok}
use Rattle.account.specs.Quads.{AllRated}

-- every quad of a state was rated
pub rated_rule : (s : Settings) → Rule s (λ st es. AllRated s.quality st.mesh.points st.quads) (λ st es n m. AllRated s.quality m.points st.quads)
    (λ st. AllRated s.quality st.mesh.points st.quads)
unfolding counting
rated_rule s = record {
  opens = λ st es ok h f. h;
  begins = λ st es h. h;
  flips = λ st es n m m' e ok h i f. subst (λ ps. AllRated s.quality ps st.quads) (sym (flip_points m e m' f)) h;
  splits = λ st es n m x t p ok h w. subst (λ ps. AllRated s.quality ps st.quads) (sym (split_grows m x.slot t p)) (λ q i. rated_more s.quality m.points (p ∷ []) q (h q i));
  refuses = λ st e es why n m h ok w. w;
  places = λ st e es n m q h w.
      let same : m.points ≡ w.mesh.points = ap (λ k. k.points) w.after ∙ replaced_points w.mesh q w.cells in
      subst (λ ps. AllRated s.quality ps (st.quads ++ (q ∷ []))) (sym same)
      (λ r i. elim (in_either r st.quads (q ∷ []) i) [ inl j ↦ w.before.1 r j | inr (inl e) ↦ subst (λ z. Rated s.quality w.mesh.points z) (sym e) w.trial | inr (inr x'') ↦ elim x'' [ ] ]);
  ends = λ st e es n m h ok w. w;
  limits = λ st es h. h;
  empties = λ st h. h;
}

-- the quads of a finished run
pub quads_rated : (s : Settings) (lk : Edge → Bool) (ts : List Tri) (ps : List Node) (r : Result) → Proper ps ts → run_front s lk ts ps ≡ ran r → AllRated s.quality r.points r.quads
unfolding result start
quads_rated s lk ts ps r h e =
    let w = run_ok s _ _ _ (rated_rule s) lk ts ps r (start_valid s lk ts ps h, λ q i. absurd i) e in
    subst (λ x. AllRated s.quality x.points x.quads) (sym w.2) w.1.1
