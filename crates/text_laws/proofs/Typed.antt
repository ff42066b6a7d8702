-- What is recorded for the nodes of a text that are told with their types, at the types of its typing.
use Rattle.std.proofs.Common.{◌≡◌, ℕ, Bool, true, List, [], ◌∷◌, ◌++◌, subst}
use Rattle.tree_model.specs.Trees.{Tree}
use Rattle.type_model.specs.Types.{Typ}
use Rattle.signature_model.specs.Entries.{Environment}
use Rattle.typing_model.specs.Demands.{Site, Condition, same, instance, made, known, demand, treated}
use Rattle.typing_model.specs.Typings.{outermost, conditions_of}
use Rattle.typed_model.specs.Shown.{IsToldTyped}
use Rattle.typing_conditions.specs.Sights.{Sight, Letters}
use Rattle.typing_conditions.specs.Seeing.{IsSeen}
use Rattle.typing_conditions.specs.Judging.{AllSeen}
use Rattle.binding_rows.specs.Outside.{ReadsItems, ItemsCarried, SeesItems}
use Rattle.text_laws.specs.Texts.{text_asks, IsTyped}

-- of a node that is told with its type it holds as of one whose type is told
told_seen : (S : ℕ → Environment → Bool → Type 0) (before after : List Condition) (n : ℕ) (E : Environment) (t : Typ) → AllSeen S (before ++ treated n E ∷ known t ∷ after) → S n E true
told_seen S [] after n E t h = h.0
told_seen S (same u w ∷ before) after n E t h = told_seen S before after n E t h
told_seen S (instance s u ∷ before) after n E t h = told_seen S before after n E t h
told_seen S (made m u ∷ before) after n E t h = told_seen S before after n E t h
told_seen S (known u ∷ before) after n E t h = told_seen S before after n E t h
told_seen S (demand s at d ∷ before) after n E t h = told_seen S before after n E t h
told_seen S (treated m F ∷ before) after n E t h = told_seen S before after n E t h.1

-- So for each such node of a text a type is recorded, and names in scope, which stand for those of the environment in which it is treated.
pub text_seen : {env : Environment} {text : List Tree} {kept : Site → Bool} {a b : Sight} {G : Letters} (p : ItemsCarried (λ ch. env) (text_asks text) a [] b G) (h : IsTyped env text kept a b G) → h.carried ≡ p → SeesItems (λ ch. env) (text_asks text) b G p.left p.judged →
    (n : ℕ) (E : Environment) (t : Typ) → IsToldTyped n E t (conditions_of env text kept h.choice) → IsSeen b.scopes b.types h.types n E true
text_seen {env} {text} {kept} {a} {b} {G} p h is sees n E t told =
    let reads : ReadsItems (λ ch. env) b G p.left p.judged h.types (outermost env kept h.choice) = subst (λ (q : ItemsCarried (λ ch. env) (text_asks text) a [] b G). ReadsItems (λ ch. env) b G q.left q.judged h.types (outermost env kept h.choice)) is h.reads in
    let seen = sees h.types (outermost env kept h.choice) reads b.scopes b.types (record { names = λ i k names e. e; nodes = λ i k m e. e }) in
    told_seen (IsSeen b.scopes b.types h.types) told.before told.after n E t (subst (AllSeen (IsSeen b.scopes b.types h.types)) told.is seen)
