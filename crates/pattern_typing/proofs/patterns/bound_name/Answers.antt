use Rattle.std.proofs.Common.{refl, sym, subst}
use Rattle.signature_model.specs.Declarations.{in_text}
use Rattle.typing_model.specs.Parts.{place_of}
use Rattle.syntax_tree.specs.View.{tok_of}
use Rattle.typing_conditions.specs.Surroundings.{IsEntry}
use Rattle.pattern_typing.proofs.patterns.bound_name.Goals as goal

pub returns-clause-entry : goal.returns-clause-entry
returns-clause-entry c = subst (λ e. IsEntry e (tok_of c.args.token.now).name (in_text (place_of (tok_of c.args.token.now))) c.args.node) (sym c.in_ok-entry.ensures) (record { named = sym c.in_ok-share.ensures; kind = refl; placed = refl; is = refl })
