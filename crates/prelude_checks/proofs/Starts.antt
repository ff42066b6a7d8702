-- After the prelude all is known of names that is to be: no letter of an item is in doubt.
use Rattle.std.proofs.Common.{◌≡◌, ◌∙◌, ◌++◌, ℕ, true, List, [], ◌∷◌, Option, None, Some, refl, sym}
use Rattle.type_model.specs.Schemes.{Scheme}
use Rattle.type_model.specs.Types.{Typ}
use Rattle.signature_model.specs.Declarations as rules
use Rattle.signature_model.specs.Entries.{Environment}
use Rattle.typing_model.specs.Typings.{no_choice}
use Rattle.type_nodes.specs.Nodes.{Node}
use Rattle.type_nodes.specs.Readings.{Types}
use Rattle.env_table.specs.declared.entries.Constructor.{Constructor}
use Rattle.env_table.specs.declared.entries.Declaration.{Declaration}
use Rattle.env_table.specs.declared.entries.Entry.{Entry}
use Rattle.typing_conditions.specs.Assumptions.{SchemeFits, SchemeReads}
use Rattle.typing_conditions.specs.Declared.{DeclaredAs, ExceptionAs}
use Rattle.typing_conditions.specs.Environments.{EnvAs}
use Rattle.typing_conditions.specs.Locals.{IsOwn}
use Rattle.typing_conditions.specs.Standing.{IsIn, Stands}
use Rattle.typing_conditions.specs.Surroundings.{HasOwnLabels}
use Rattle.typing_conditions.specs.Sights.{Sight}
use Rattle.typing_conditions.proofs.Environments.{env_map}
use Rattle.typing_conditions.proofs.Own.{own_of}
use Rattle.typing_steps.specs.Typing.{as_declared}
use Rattle.binding_rows.specs.Outside.{AgreesOutside, Outside}
use Rattle.first_laws.specs.Declaring.{StartsAmong}
use Rattle.prelude_checks.proofs.Plain.{plain_names, none_unknown, none_apart, none_of, knows_names, env_plain}

-- the same names, where all that is to be known of them is
pub record StartsKnown (b : Sight) (env : List Entry) (first : Environment) (U : List ℕ) : Type 0 where
  pub starts : StartsAmong b [] env (λ ch. first) U
  pub known : starts.outside.known ≡ true

module _ (b : Sight) (env : List Entry) (first : Environment) (known : knows_names first ≡ true) (untyped : (i p : ℕ) → b.types i p ≡ None) (at : Outside as_declared b [] env (λ ch. first)) where
  abbrev names : Types
  names = plain_names at.names

  abbrev Named : Declaration → rules.Declaration → Type 0
  Named d e = DeclaredAs b.nodes at.roots names d e

  abbrev Thrown : Constructor → Option Typ → Type 0
  Thrown c o = ExceptionAs b.nodes at.roots names c o

  -- the names stand for those of the first environment, with other names for the variables in their roots
  stand_plain : (R : List Node → Types → ℕ → Scheme → Type 0) (J V : Types) → Stands R (DeclaredAs b.nodes at.roots at.names) (ExceptionAs b.nodes at.roots at.names) b.nodes J at.roots V env first → Stands R Named Thrown b.nodes J at.roots V env first
  stand_plain R J V s = record {
    names = env_map (λ r sc. R b.nodes V r sc × IsIn at.roots r) (λ r sc. R b.nodes V r sc × IsIn at.roots r) (λ d e. Named d e × HasOwnLabels e) Named Thrown Thrown (λ r sc h. h) (λ d e h. h.0) (λ c o h. h)
        (env_plain (λ r sc. R b.nodes V r sc × IsIn at.roots r) (λ r sc. R b.nodes V r sc × IsIn at.roots r) (λ r sc h. h) b.nodes at.roots at.names s.names known);
    brings = s.brings;
  }

  own_here : (J : Types) × IsOwn b.nodes J
  own_here = own_of b.nodes at.sound

  agrees_here : AgreesOutside b [] own_here.0 no_choice
  agrees_here = record { recorded = λ i p m e. absurd (let z : None ≡ Some m = sym (untyped i p) ∙ e in cc); known = λ i p m e. absurd (let z : None ≡ Some m = sym (untyped i p) ∙ e in cc); given = tt }

  covered_here : EnvAs (λ r sc. IsIn at.roots r) (λ d e. Named d e × HasOwnLabels e) Thrown env first
  covered_here = env_plain (λ r sc. SchemeFits b.nodes own_here.0 r sc × IsIn at.roots r) (λ r sc. IsIn at.roots r) (λ r sc h. h.1) b.nodes at.roots at.names (at.fits own_here.0 own_here.0 no_choice own_here.1 own_here.1.loose agrees_here).names known

  pub outside_known : Outside as_declared b [] env (λ ch. first)
  outside_known = record {
    sound = at.sound;
    level = at.level;
    roots = at.roots;
    names = names;
    apart = none_apart at.names;
    older = at.older;
    unknown = λ v n o e. absurd (none_of at.names v (o ++ n ∷ []) e);
    steady = at.steady;
    context = at.context;
    covered = (first, env_map (λ r sc. IsIn at.roots r) (λ r sc. IsIn at.roots r) (λ d e. Named d e × HasOwnLabels e) Named Thrown Thrown (λ r sc h. h) (λ d e h. h.0) (λ c o h. h) covered_here);
    known = true;
    knows = λ yes. record { plain = none_unknown at.names; covered = (first, covered_here) };
    reads = λ J V ch own reads g. stand_plain SchemeReads J V (at.reads J V ch own reads g);
    fits = λ J V ch own loose g. stand_plain SchemeFits J V (at.fits J V ch own loose g);
  }

-- So it is where the next item starts among the names of the first environment.
pub starts_known : (b : Sight) (env : List Entry) (first : Environment) {U : List ℕ} → knows_names first ≡ true → ((i p : ℕ) → b.types i p ≡ None) → StartsAmong b [] env (λ ch. first) U → StartsKnown b env first U
unfolding outside_known
starts_known b env first known untyped s = record { starts = record { outside = outside_known b env first known untyped s.outside; older = s.older }; known = refl }
