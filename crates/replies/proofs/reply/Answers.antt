-- `reply`: the text is read; refusal 10, or the reply to the input.
use borrow.Author.Rules.{rules}
use mathlib.Core.Path.{◌≡◌, subst, ◌∙◌}
use Prim.Native.Nat.{ℕ, ◌≤◌}
use lib.ListN.{length, length-replicate}
use native.Mathlib.Omega.{arith}
use Rattle.writing.specs.Answer.{most_written, Answered}
use Rattle.replies.proofs.Texts.{bad_text, good_text, text_kept}
use Rattle.replies.proofs.reply.Goals as goal

pub enum_told-1 : goal.enum_told-1
enum_told-1 c = search rules

pub returns-in_default : goal.returns-in_default
returns-in_default c =
    let a = c.args in
    let w = c.refusal in
    let long : length a.out.now ≡ 26624 = search rules in
    let kept : length w.new.out ≡ length a.out.now = w.auto.out in record { answered = subst (λ t. Answered a.out.now w.new.out t w.result) (bad_text c.read.ensures c.in_default.is) w.ensures; out_len = kept ∙ long }

pub meshed-requires : goal.meshed-requires
meshed-requires c =
    let r = c.read in
    let long : most_written ≤ length c.args.out.now = search rules in
    let k = text_kept r.ensures c.in-Some.is in (
      record {
        few_triangles = k.few_triangles;
        few_points = k.few_points;
        triangles_held = omega (arith, r.auto.tris, length-replicate {A = ℕ} 192 0);
        points_held = omega (arith, r.auto.bits, length-replicate {A = ℕ} 192 0);
      },
      long,
    )

pub returns : goal.returns
returns c =
    let a = c.args in
    let w = c.meshed in
    let long : length a.out.now ≡ 26624 = search rules in
    let kept : length w.new.out ≡ length a.out.now = w.auto.out in record { answered = subst (λ t. Answered a.out.now w.new.out t w.result) (good_text c.read.ensures c.in-Some.is) w.ensures; out_len = kept ∙ long }
