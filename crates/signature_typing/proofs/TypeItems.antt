-- A call that types one type of its own as an item gives it, and its name stands then.
use Rattle.std.proofs.Common.{◌≡◌, ◌∙◌, ℕ, Bool, true, false, not, List, [], ◌∷◌, ◌++◌, map, Some, None, refl, sym, ap, subst, append-nil, if◌then◌else◌}
use Rattle.std.specs.Prelude.{Result, Ok, Err, OnOk}
use Rattle.std.specs.Str.{bytes_eq}
use denote.Ref.{Bor}
use Rattle.text_terms.specs.Bytes.{str_bytes}
use Rattle.token_model.specs.Kinds.{Tok}
use Rattle.tree_model.specs.Trees.{Tree}
use Rattle.signature_model.specs.Declarations.{Name}
use Rattle.typing_model.specs.Contexts.{ask}
use Rattle.typing_model.specs.Declarations.{declaration_row, names_asked}
use Rattle.typing_model.specs.Demands.{site, twice, test}
use Rattle.typing_model.specs.Parts as parts
use Rattle.typing_model.specs.Parts.{Seen, no_names, seen_too}
use Rattle.typing_model.specs.Records.{is_among}
use Rattle.syntax_tree.specs.View.{place_of, tok_of}
use Rattle.syntax_tree.specs.declared.Token.{Token}
use Rattle.row_parts.specs.Numbered.{with_token}
use Rattle.env_table.specs.declared.entries.Kind.TheVariants as kind
use Rattle.env_table.specs.declared.faults.FaultKind.TheVariants as fault
use Rattle.typing_state.specs.declared.parts.Parts.{Parts}
use Rattle.typing_state.specs.Goes.{Goes, OnlyIndex, OnlyFaults, Told, faults_of}
use Rattle.typing_state.specs.Messages.{twice_text}
use Rattle.typing_state.specs.Notes.{NotedNameless}
use Rattle.typing_steps.specs.States.{is_aloud, sight, reports_of}
use Rattle.typing_steps.proofs.Starting.{constants_kept}
use Rattle.operand_laws.specs.Operands.{number_of, parts_of}
use Rattle.type_expressions.proofs.Untyped.{faults_untyped}
use Rattle.typing_rows.specs.Noted.{AreNoted}
use Rattle.typing_rows.specs.Settled.{Before}
use Rattle.typing_rows.proofs.Judging.{Judges, test_judges, complaint_judges}
use Rattle.typing_rows.proofs.Noted.{noted_on}
use Rattle.binding_rows.specs.Outside.{OnlyBetween}
use Rattle.binding_rows.proofs.ItemKinds.{noted_between}
use Rattle.binding_rows.proofs.ItemOrders.{outside_between}
use Rattle.decl_groups.specs.Written.{node_first, nodes_as, declaration_in, declarations_in}
use Rattle.decl_typing.specs.declared.decls.Declared.{Declared}
use Rattle.decl_typing.specs.Groups.{DeclaresTypes}
use Rattle.decl_typing.proofs.Constructors.{among_more}
use Rattle.declared_items.specs.Adding.{ItemAdded}
use Rattle.declared_items.specs.Items.{recorded_type}
use Rattle.declared_items.proofs.Adding.{item_added_between}
use Rattle.declared_items.proofs.Declared.{name_written}
use Rattle.declared_items.proofs.Frames.{names_before}
use Rattle.declared_items.proofs.Judged.{judged_carried, judged_outside}
use Rattle.declared_items.proofs.TypeItems.{type_given}
use Rattle.module_steps.specs.declared.scenes.Scene.{Scene}
use Rattle.module_steps.specs.Scenes.{told_again, SameNames, NamesOne, OnlyNames, ToldTwice, AsksNew}
use Rattle.signature_typing.specs.Specifications.{HasSeen}
use Rattle.signature_typing.specs.TypeItems.{names_written, AsksEach, none_asked, one_asked, GivesType}
use Rattle.signature_typing.proofs.SpecificationSteps.{seen_same}

-- tokens of the code that are one token are one
one_token : (ts : List (Bor Token)) (k : Tok) → map (λ (u : Bor Token). tok_of u.now) ts ≡ k ∷ [] → (t : Bor Token) × (ts ≡ t ∷ []) × (tok_of t.now ≡ k)
one_token [] k e = absurd (cc)
one_token (t ∷ []) k e = (t, refl, (let f : tok_of t.now ≡ k = cc in f))
one_token (t ∷ u ∷ ts) k e = absurd (cc)

-- what is asked of one name alone
asked_one : {t : Token} {s r : Scene} {a b : Parts} → AsksEach (t ∷ []) s r a b → AsksNew (Some t) kind.TypeName s r a b
asked_one (one_asked h none_asked) = h

-- the demand that the name of a type is new among those that stand
name_judged : (a b : Parts) {B : Before} (n : ℕ) (t : Token) (old new : Scene) (seen : Seen) → is_aloud a.telling ≡ true → HasSeen old seen → AsksNew (Some t) kind.TypeName old new a b →
    Judges B (λ c. ask n 0 (place_of t.span) (test (twice (str_bytes t.name)) (not (is_among (str_bytes t.name) seen.types)))) (sight a) (sight b) (site n 0) (not (is_among (str_bytes t.name) seen.types))
name_judged a b {B} n t old new seen aloud standing asked =
    by (is_among (str_bytes t.name) seen.types) (subst (λ v. ToldTwice a.telling (faults_of a) (faults_of b) t.span (told_again v (str_bytes t.name))) (standing.types (str_bytes t.name)) asked.0)
  where
    by : (v : Bool) → ToldTwice a.telling (faults_of a) (faults_of b) t.span (told_again v (str_bytes t.name)) → Judges B (λ c. ask n 0 (place_of t.span) (test (twice (str_bytes t.name)) (not v))) (sight a) (sight b) (site n 0) (not v)
    by true (mid, told, same) = complaint_judges a b (twice (str_bytes t.name)) (site n 0) aloud (subst (λ fs. Told a.telling (faults_of a) fs t.span fault.Unique (twice_text (str_bytes t.name))) (sym same) told)
    by false same = test_judges (twice (str_bytes t.name)) (site n 0) true (ap reports_of same)

-- it stands then
one_standing : {old new : Scene} {seen : Seen} (name : Name) → NamesOne old new kind.TypeName name → HasSeen old seen → HasSeen new (seen_too seen (record no_names { types = name ∷ [] }))
one_standing {old} {new} {seen} name one standing = record {
  types = λ m. one kind.TypeName m ∙ ap (λ (v : Bool). if bytes_eq name m then true else v) (standing.types m) ∙ among_more m name seen.types;
  modules = λ m. one kind.Module m ∙ standing.modules m ∙ ap (is_among m) (sym (append-nil seen.modules));
  module_types = λ m. one kind.ModuleType m ∙ standing.module_types m ∙ ap (is_among m) (sym (append-nil seen.module_types));
}

same_state : (a : Parts) → OnlyBetween (sight a) (sight a)
same_state a = record { nodes = refl; types = λ i p. refl; noted = λ i p h. h; scopes = λ i p env h. h; reports = refl; aloud = refl; level = refl; fixed = refl }

-- The call: the item's node is noted, its names are asked, and then its declarations are declared, and are in scope.
pub type_group_given : {A F : Type 0} (r : Result A F) (a b c d : Parts) (s s1 s2 s3 : Scene) (n : ℕ) (t : Tree) (names : List (Bor Token)) (declared : Declared) → NotedNameless a b n s.env None → OnlyIndex a b → Goes a b →
    map (λ (u : Bor Token). tok_of u.now) names ≡ names_written (declarations_in n t) → AsksEach (map (λ (u : Bor Token). u.now) names) s s1 b c → OnlyNames s s1 → OnlyFaults b c → Goes b c →
    DeclaresTypes s1.env c d n t declared → SameNames s1 s2 → OnOk r (s3.env ≡ declared.env) → SameNames s2 s3 → OnOk r (GivesType a d s s3 n t)
unfolding outside_between
type_group_given (Err e) a b c d s s1 s2 s3 n t names declared noted rest goes written_are asked only_names faults goes_on types same_made env same_after = tt
type_group_given (Ok v) a b c d s s1 s2 s3 n t names declared noted rest goes written_are asked only_names faults goes_on types same_made env same_after = λ G E seen x aloud at constants older standing.
    let only = noted_between a b n s.env noted rest in
    let at_b = outside_between only at in
    let constants_b = constants_kept a b goes constants in
    let older_b = noted_on at.older older goes in
    let aloud_b = only.aloud ∙ aloud in
    let k = x.operand.number in
    let u = x.declaration in
    let one_operand : declarations_in n t ≡ declaration_in k u ∷ [] = ap (nodes_as declaration_in) x.only ∙ ap (λ q. node_first declaration_in k q []) x.part in
    let (token, names_are, token_is) = one_token names x.is.name (written_are ∙ ap names_written one_operand ∙ ap (λ o. with_token o []) x.is.named) in
    let asked_new = asked_one (subst (λ us. AsksEach (map (λ (y : Bor Token). y.now) us) s s1 b c) names_are asked) in
    let judged = name_judged b c {B = names_before b at_b constants_b []} (number_of b.item k) token.now s s1 seen aloud_b standing asked_new in
    let row = declaration_row (number_of b.item k) (parts_of b.item k u) in
    let same : names_asked seen.types (row ∷ []) ≡ ask (number_of b.item k) 0 (place_of token.now.span) (test (twice (str_bytes token.now.name)) (not (is_among (str_bytes token.now.name) seen.types))) =
    ap (λ o. elim o [ None ↦ [] | Some w ↦ ask (number_of b.item k) 0 (parts.place_of w) (test (twice w.name) (not (is_among w.name seen.types))) ++ [] ]) (name_written b.item k u x.is ∙ ap Some (sym token_is)) in
    let carried = judged_carried b c at_b constants_b judged faults (λ y. names_asked seen.types (row ∷ [])) (λ y. sym same) (number_of b.item n) in
    let next = judged_outside at_b faults in
    let types_c = subst (λ es. DeclaresTypes es c d n t declared) only_names.env types in
    let added = type_given b c c d n t x declared types_c at_b.sound faults.item (faults_untyped b c faults) (same_state c) next.outside (constants_kept b c goes_on constants_b) (subst (λ U. AreNoted U c) (sym next.older) (noted_on at.older older_b goes_on)) (ap is_aloud faults.telling ∙ aloud_b) seen carried in
    record {
      added = subst (λ es. ItemAdded E (recorded_type a.item n k u) seen (record no_names { types = x.is.name.name ∷ [] }) a d G es) (sym env)
          (item_added_between only (subst (λ i. ItemAdded E (recorded_type i n k u) seen (record no_names { types = x.is.name.name ∷ [] }) b d G declared.env) rest.item added));
      standing = seen_same {s = s2} {s' = s3} same_after (seen_same {s = s1} {s' = s2} same_made (subst (λ m. HasSeen s1 (seen_too seen (record no_names { types = m ∷ [] }))) (ap (λ (y : Tok). y.name) token_is) (one_standing (str_bytes token.now.name) asked_new.1 standing)));
    }
