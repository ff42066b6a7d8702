-- A declaration that is a type of its own: its node is recorded, its parameters are asked, and its type is made and closed.
use Rattle.std.proofs.Common.{◌≡◌, ◌∙◌, ◌++◌, ℕ, List, [], ◌∷◌, length, Option, Some, option_map, refl, ap, subst, append_assoc}
use denote.Ref.{Bor}
use Rattle.syntax_tree.specs.declared.tree.Token.{Token}
use Rattle.text_terms.specs.Bytes.{str_bytes}
use Rattle.type_model.specs.Types.{Path}
use Rattle.type_model.specs.Types.{Typ as type}
use Rattle.signature_model.specs.Declarations.{parameters_from}
use Rattle.typing_model.specs.Contexts.{parameters, tell}
use Rattle.typing_model.specs.Patterns.{ask_all}
use Rattle.typing_model.specs.Declarations.{shape_asks, new_tokens, names_of_tokens}
use Rattle.env_table.specs.declared.entries.Entry.{Entry}
use Rattle.env_table.specs.declared.entries.Shape.{Shape}
use Rattle.typing_state.specs.declared.parts.Parts.{Parts}
use Rattle.typing_state.specs.Goes.{Goes, OnlyFaults, OnlyIndex}
use Rattle.typing_state.proofs.Going.{goes_trans}
use Rattle.typing_conditions.specs.Declared.{with_parameters}
use Rattle.typing_conditions.specs.Frames.{Frame}
use Rattle.typing_steps.specs.States.{is_aloud, sight, written_in}
use Rattle.operand_laws.specs.Operands.{number_of}
use Rattle.typing_rows.specs.Settled.{behind, Settled}
use Rattle.typing_rows.proofs.DeclaredOrdered.{index_reports}
use Rattle.typing_rows.proofs.Settling.{settled_trans, settled_here, settled_told}
use Rattle.declared_rows.specs.Assignments.{Assignment, Assigns, Assigned, Denotes}
use Rattle.declared_rows.proofs.Going.{assigned_still, assigned_then}
use Rattle.typing_rows.proofs.Noted.{noted_on}
use Rattle.decl_groups.specs.declared.groups.DeclarationPart.{DeclarationPart}
use Rattle.decl_typing.specs.Asked.{tokens_as, SettlesTokens}
use Rattle.decl_typing.specs.Denoting.{raised}
use Rattle.decl_typing.specs.Parameters.{token_names, shape_roots}
use Rattle.decl_typing.specs.Owned.{told_in, told_as, ShapeMade, ClosesType, OriginOf, DeclaresType}
use Rattle.decl_typing.proofs.Defining.{body_reads}

-- the names of tokens are those of the definitions' tokens
names_same : (ts : List (Bor Token)) → token_names ts ≡ names_of_tokens (tokens_as ts)
names_same [] = refl
names_same (t ∷ ts) = ap (λ ns. (tok_name t) ∷ ns) (names_same ts)
  where
    tok_name : Bor Token → List ℕ
    tok_name u = str_bytes u.now.name

-- what is recorded, and what is asked, leaves an assignment as it is
abbrev asked_still : {F : Frame} {U : List ℕ} {A : Assignment} (a b d : Parts) → OnlyIndex a b → OnlyFaults b d → Assigns F 0 U (sight (raised a)) A → Assigned F 0 U (sight (raised a)) (sight (raised d)) A
asked_still a b d first then at = assigned_still (ap (λ s. s.nodes) (then.store ∙ first.store)) refl (λ y k e. ap (λ w. written_in w y) (then.written ∙ first.written) ∙ e) at

-- its type is made after its parameters were asked
pub type_declared : (a b d f : Parts) (env : List Entry) (p : DeclarationPart) (root body : ℕ) (defines : Option Path) (z : Shape) → OnlyIndex a b → Goes a b → SettlesTokens b d (tokens_as p.parameters.items) → OnlyFaults b d → Goes b d → ClosesType d f env p root body z → OriginOf f body defines → DeclaresType a f env p root defines z
type_declared a b d f env p root body defines z first goes asked then goes' closes origin = λ right parts aloud zero B around F U A at types noted.
    let n = number_of a.item p.number in
    let k = length p.parameters.items in
    let ts = tokens_as p.parameters.items in
    let whole : Goes a d = goes_trans a b d goes goes' in
    let item : d.item ≡ a.item = whole.item in
    let t = asked (ap is_aloud goes.telling ∙ aloud) (behind B [] []) n in
    let still = asked_still a b d first then at in
    let x = closes right parts (ap is_aloud whole.telling ∙ aloud) (then.level ∙ first.level ∙ zero) (behind (behind B [] []) t.judged []) around F U A still.assigns types (noted_on U noted whole) in
    let m = x.makes in
    let shape = subst (λ i. Settled (behind (behind B [] []) t.judged []) (λ c. shape_asks c (option_map (told_as i) (told_in p.right))) m.settled.judged m.settled.reported m.settled.fixes) item m.settled.settled in
    let on = assigned_then still m.on in
    let (inside, shown) = body_reads f.store.nodes (root ∷ shape_roots z) m.on.assigns m.of_body x.closes x.sound in
    let (name, ms, reads) = shown in
    record {
      judged = t.judged ++ m.settled.judged;
      reported = t.told ++ m.settled.reported;
      fixes = m.settled.fixes;
      reports = x.reports ∙ m.settled.reports ∙ ap (λ rs. rs ++ m.settled.reported) (t.reports ∙ ap (λ rs. rs ++ t.told) (index_reports a b first)) ∙ append_assoc (sight a).reports t.told m.settled.reported;
      settled = settled_here (λ c h. ap (λ v. tell n c ++ ask_all n 1 (new_tokens [] ts) ++ shape_asks (record c { variables = v }) (option_map (told_as a.item) (told_in p.right))) (h.variables ∙ ap parameters (around.1 ∙ names_same p.parameters.items))) (settled_trans (settled_told n) (settled_trans t.settled shape));
      numbers = m.numbers;
      before = x.before;
      on = on;
      of_root = subst (λ i. Denotes on.after root (with_parameters k (type.Con (number_of i p.number ∷ []) (parameters_from 0 k)))) item m.of_root;
      path = origin (number_of d.item p.number ∷ []) name ms inside reads ∙ ap (λ i. Some (number_of i p.number ∷ [])) item;
      made = subst (λ i. ShapeMade on.after (type.Con (number_of i p.number ∷ []) (parameters_from 0 k)) m.settled.fixes i (told_in p.right) z) item m.made;
      closes = x.closes;
      sound = x.sound;
      plain = x.plain;
      level = x.level ∙ then.level ∙ first.level;
      noted = x.noted;
    }
