use Rattle.std.proofs.Common.{refl, sym, subst}
use Rattle.std.proofs.lemmas.Result.{IfOk-weaker}
use Rattle.signature_model.specs.Declarations.{in_text}
use Rattle.typing_model.specs.Parts.{place_of}
use Rattle.syntax_tree.specs.View.{tok_of}
use Rattle.typing_conditions.specs.Surroundings.{IsEntry}
use Rattle.expression_steps.proofs.parts.loop_entry.Goals as goal

pub returns : goal.returns
returns c = IfOk-weaker c.owned.result _ _ (λ e same. subst (λ x. IsEntry x (tok_of c.args.name.now).name (in_text (place_of (tok_of c.args.name.now))) c.args.at.now.constants.int) (sym same) (record { named = sym c.in_ok-share.ensures; kind = refl; placed = refl; is = refl })) c.owned.ensures
