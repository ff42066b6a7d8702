-- What items of a signature give, one after the other, where one typing of the definitions is known.
use Rattle.std.proofs.Common.{◌≡◌, ◌∙◌, inl, inr, ℕ, ◌+◌, Bool, true, false, if◌then◌else◌, List, [], ◌∷◌, ◌++◌, length, filter_map, Some, None, refl, sym, ap, subst, append-nil, arith}
use Rattle.std.specs.List.{cons_option}
use Rattle.tree_model.specs.Rows.{exception_row, decl_row}
use Rattle.tree_model.specs.Slots.{is_operand}
use Rattle.tree_model.specs.Trees.{Tree, Place, node, inner, part_yield}
use Rattle.signature_model.specs.Entries.{Environment}
use Rattle.signature_model.specs.Matching.{IsKnown}
use Rattle.typing_laws.proofs.Bools.{no_yes}
use Rattle.typing_model.specs.Demands.{Site, Condition, AllHold}
use Rattle.typing_model.specs.Contexts.{Choice, Context, under}
use Rattle.typing_model.specs.Parts as parts
use Rattle.typing_model.specs.Parts.{Child, Item, Seen, no_names, seen_too, type_in}
use Rattle.typing_model.specs.Declarations.{declaration_row}
use Rattle.typing_model.specs.Items.{items_ask, behind_items, seen_names, type_item}
use Rattle.typing_model.specs.Modules.{item_row, signature_item_row, value_item}
use Rattle.typing_model.specs.Meanings as meanings
use Rattle.typing_model.specs.Meanings.{children_of, child_of, recorded_item}
use Rattle.type_nodes.specs.Nodes.{IsSound}
use Rattle.type_nodes.specs.Readings.{Types}
use Rattle.level_unify.proofs.Unified.{fits_loosely}
use Rattle.env_table.specs.declared.entries.Entry.{Entry}
use Rattle.row_parts.specs.Numbered.{Numbered, numbered}
use Rattle.row_parts.specs.Numbered as numbers
use Rattle.typing_state.specs.declared.parts.Parts.{Parts}
use Rattle.operand_laws.specs.Formed.{row_of, is_needed}
use Rattle.operand_laws.specs.Operands.{number_of, parts_of, child_at}
use Rattle.operand_laws.proofs.Sorts.{chosen_stand, type_stands}
use Rattle.operand_laws.proofs.Tokens.{token_stands}
use Rattle.typing_conditions.specs.Judging.{Judgement, judged_at, judgements, refused, AreKept, FallsShort}
use Rattle.typing_conditions.specs.Carrying.{Asks}
use Rattle.typing_conditions.specs.Sights.{Sight, Report, Letters}
use Rattle.typing_conditions.proofs.Own.{own_of}
use Rattle.typing_conditions.proofs.Roots.{own_reads}
use Rattle.typing_conditions.proofs.Judged.{hold_left, hold_right, judged_both, judged_kept}
use Rattle.typing_steps.specs.Constants.{HasConstants}
use Rattle.typing_steps.specs.States.{is_aloud, sight}
use Rattle.typing_steps.specs.Typing.{as_declared}
use Rattle.typing_rows.specs.Noted.{AreNoted}
use Rattle.binding_rows.specs.ItemRows.{ItemsDone, item_if, item_at}
use Rattle.binding_rows.specs.Outside.{Outside, ContinuesItems, ItemsCarried, AreMet}
use Rattle.binding_rows.proofs.ItemKinds.{none_too}
use Rattle.binding_rows.proofs.ItemOrders.{asked_both}
use Rattle.declared_items.specs.Adding.{ItemsAdded}
use Rattle.declared_items.specs.Items.{recorded_type}
use Rattle.declared_items.specs.Written.{IsOwnTypeNode}
use Rattle.declared_items.proofs.Adding.{items_added_one}
use Rattle.signature_typing.specs.Values.{type_specified}
use Rattle.signature_typing.specs.ValueItems.{IsValueNode, recorded_value, ValueAdded, GivesValue}
use Rattle.signature_typing.specs.Specifications.{specification_at, AreSure, AllMet}

-- the item of an operand that is a value
pub value_there : (i n : ℕ) (at : Place) (t : Tree) → IsValueNode n t → specification_at i (numbered n at (inner t)) ≡ recorded_value i n t ∷ []
unfolding signature_item_row is_operand is_needed
value_there i n at (node r x ps) e =
    ap (λ q. item_if (recorded_item (number_of i n) (signature_item_row q (number_of i n) x.span (part_yield (inner (node r x ps))) (parts_of i n (node r x ps))))) e.row
    ∙ ap (λ k. item_if (recorded_item (number_of i n) (Some (value_item (number_of i n) (part_yield (inner (node r x ps))) k (type_in 3 (parts_of i n (node r x ps))))))) (token_stands i n (node r x ps) 1)
    ∙ ap (λ k. item_if (recorded_item (number_of i n) (Some (value_item (number_of i n) (part_yield (inner (node r x ps))) (numbers.token_in (node r x ps) 1) k)))) (type_stands i n (node r x ps) 3 e.formed (ap (λ q. is_operand q 3) e.row) (ap (λ q. is_needed q 3) e.row))

-- an exception of a signature is the same item as one of a structure
pub exception_as_item : (i n : ℕ) (at : Place) (t : Tree) → row_of t ≡ exception_row → item_at i (numbered n at (inner t)) ≡ specification_at i (numbered n at (inner t))
unfolding item_row signature_item_row
exception_as_item i n at (node r x ps) e =
    ap (λ q. item_if (recorded_item (number_of i n) (item_row q (number_of i n) x.span (part_yield (inner (node r x ps))) (parts_of i n (node r x ps))))) e
    ∙ sym (ap (λ q. item_if (recorded_item (number_of i n) (signature_item_row q (number_of i n) x.span (part_yield (inner (node r x ps))) (parts_of i n (node r x ps))))) e)

-- a declaration that is an operand
declaration_there : (i n : ℕ) (t : Tree) → row_of t ≡ decl_row → (child_of (number_of i n) 2 (inner t)).declaration ≡ Some (declaration_row (number_of i n) (parts_of i n t))
declaration_there i n (node r x ps) e = ap (λ q. meanings.declaration_of q (number_of i n) (children_of (number_of i n + 1) r ps)) e

-- the one declaration of an item
declarations_stand : (i n : ℕ) (t : Tree) (x : IsOwnTypeNode n t) → filter_map (λ (k : Child). k.declaration) (parts.in_slot 2 (parts_of i n t)) ≡ declaration_row (number_of i x.operand.number) (parts_of i x.operand.number x.declaration) ∷ []
unfolding is_operand
declarations_stand i n t x =
    chosen_stand (λ (k : Child). k.declaration) i n t 2 x.formed (ap (λ r. is_operand r 2) x.row)
    ∙ ap (filter_map (λ (o : Numbered). (child_at i 2 o).declaration)) x.only
    ∙ ap (λ d. cons_option d []) (ap (λ p. (child_of (number_of i x.operand.number) 2 p).declaration) x.part ∙ declaration_there i x.operand.number x.declaration x.is.row)

-- the item of an operand that declares one type of its own
pub type_there : (i n : ℕ) (at : Place) (t : Tree) (x : IsOwnTypeNode n t) → specification_at i (numbered n at (inner t)) ≡ recorded_type i n x.operand.number x.declaration ∷ []
unfolding signature_item_row
type_there i n at (node r x ps) e =
    ap (λ q. item_if (recorded_item (number_of i n) (signature_item_row q (number_of i n) x.span (part_yield (inner (node r x ps))) (parts_of i n (node r x ps))))) e.row
    ∙ ap (λ ds. item_if (recorded_item (number_of i n) (Some (type_item (number_of i n) ds)))) (declarations_stand i n (node r x ps) e)

-- a judgement among those that are sure
sure_there : (before : List Judgement) (s : Site) (kept closing : Bool) (left : List Judgement) → AreSure (before ++ judged_at s kept closing ∷ left) → (kept ≡ true) × (closing ≡ false)
sure_there [] s kept closing left h = (h.0, h.1)
sure_there (x ∷ q) s kept closing left h = sure_there q s kept closing left h.2

-- Where every demand is kept, nothing falls short.
pub never_sure : (xs ys : List Judgement) → AreSure xs → FallsShort xs ys → ⊥
never_sure xs ys sure f =
    let (kept, bare) = sure_there f.before f.site f.mine f.closing f.left (subst AreSure f.short sure) in
    elim f.why [ inl (mine, theirs) ↦ no_yes (sym mine ∙ kept) | inr (closing, other) ↦ no_yes (sym bare ∙ closing) ]

pub sure_left : (xs ys : List Judgement) → AreSure (xs ++ ys) → AreSure xs
sure_left [] ys h = tt
sure_left (x ∷ xs) ys h = (h.0, h.1, sure_left xs ys h.2)

sure_right : (xs ys : List Judgement) → AreSure (xs ++ ys) → AreSure ys
sure_right [] ys h = h
sure_right (x ∷ xs) ys h = sure_right xs ys h.2

-- One typing of the definitions is known from a state in which no type is recorded, where in a context what is asked is met, with every demand kept: with the nodes' own types.
pub first_met : (a : Parts) (E : Choice → Environment) (asks : Asks) (c : Context) → IsSound a.store.nodes → ((i p : ℕ) → (sight a).types i p ≡ None) → c.env ≡ E c.chosen → AllHold c.kept (asks c) → AreSure (judgements c.kept (asks c)) → (V : Types) × AllMet E (sight a) [] asks V c
first_met a E asks c sound none env holds sure =
    let (I, own) = own_of a.store.nodes sound in
    let never : (i p m : ℕ) → (sight a).types i p ≡ Some m → ⊥ = λ i p m e. (let f : None ≡ Some m = sym (none i p) ∙ e in cc) in (
      I,
      record {
        enters = record {
          env = env;
          inside = record { recorded = λ i p m e. absurd (never i p m e); given = tt };
          fits = (own_reads a.store.nodes I own).fits;
          agrees = record { recorded = λ i p m e. absurd (never i p m e); known = λ i p m e. absurd (never i p m e); given = tt };
        };
        holds = holds;
        sure = sure;
      },
    )

-- After items the same typing goes on: other types fit, with which the choice enters the next ones.
pub record MetAfter {E : Choice → Environment} {ms : List Item} {seen names : Seen} {a b : Parts} {G : Letters} {mid : List Entry} (p : ItemsDone as_declared ⊥ E ms seen names a b G mid) (ns : List Item) (c : Context) : Type 0 where
  pub types : Types
  pub met : AllMet p.env (sight b) p.letters (λ x. items_ask x names ns) types (under (behind_items c ms) c)

pub met_after : {E : Choice → Environment} {ms : List Item} {seen names : Seen} {a b : Parts} {G : Letters} {mid : List Entry} (p : ItemsDone as_declared ⊥ E ms seen names a b G mid) (ns : List Item) (V : Types) (c : Context) → AllMet E (sight a) G (λ x. items_ask x seen (ms ++ ns)) V c → MetAfter p ns c
met_after {E} {ms} {seen} {names} {a} {b} {G} p ns V c m = elim (p.carried.complete V c m.enters (hold_left c.kept first rest held)) [
  | inl goes ↦ next goes
  | inr short ↦ absurd (never_sure (judgements c.kept first) p.carried.judged (sure_left (judgements c.kept first) (judgements c.kept rest) sure) short)
]
  where
    first : List Condition
    first = items_ask c seen ms

    rest : List Condition
    rest = items_ask (under (behind_items c ms) c) (seen_names c ms seen) ns

    held : AllHold c.kept (first ++ rest)
    held = subst (AllHold c.kept) (sym (asked_both c seen ms ns)) m.holds

    sure : AreSure (judgements c.kept first ++ judgements c.kept rest)
    sure = subst AreSure (sym (ap (judgements c.kept) (asked_both c seen ms ns)) ∙ judged_both c.kept first rest) m.sure

    next : ContinuesItems (λ x. items_ask x seen ms) (sight a) (sight b) p.letters p.carried.left p.carried.judged V c → MetAfter p ns c
    next goes =
        let met : AreMet c first p.carried.judged = record { kept = subst (AreKept c.kept) goes.same (judged_kept c.kept first); holds = hold_left c.kept first rest held } in
        let named : seen_names c ms seen ≡ names = p.named goes.types c m.enters.env (fits_loosely b.store.nodes goes.types goes.fits) goes.agrees met in
        let asks = ap (λ s. items_ask (under (behind_items c ms) c) s ns) named in
        record {
          types = goes.types;
          met = record {
            enters = record {
              env = p.behind goes.types c m.enters.env (fits_loosely b.store.nodes goes.types goes.fits) goes.agrees met;
              inside = p.carried.stays.inside m.enters.inside;
              fits = goes.fits;
              agrees = goes.agrees;
            };
            holds = subst (AllHold c.kept) asks (hold_right c.kept first rest held);
            sure = subst (λ cs. AreSure (judgements c.kept cs)) asks (sure_right (judgements c.kept first) (judgements c.kept rest) sure);
          };
        }

-- A value is added where no unknown type stands in the type that is chosen for it.
pub value_is_added : (a b : Parts) (env after : List Entry) (n : ℕ) (place : Place) (t : Tree) (G : Letters) (E : Choice → Environment) (seen : Seen) → IsValueNode n t → is_aloud a.telling ≡ true → (at : Outside as_declared (sight a) G env E) → HasConstants a → AreNoted at.older a → GivesValue a b env after n t →
    (ns : List Item) (V : Types) (c : Context) → AllMet E (sight a) G (λ x. items_ask x seen (specification_at a.item (numbered n place (inner t)) ++ ns)) V c → IsKnown (c.chosen.type_at (type_specified a.item n t).node) → ValueAdded a at (recorded_value a.item n t) seen b after
value_is_added a b env after n place t G E seen item aloud at constants noted gives ns V c m known =
    let v = gives G E seen item aloud at constants noted in
    let met : AllMet E (sight a) G (λ x. items_ask x seen (recorded_value a.item n t ∷ ns)) V c = subst (λ ms. AllMet E (sight a) G (λ x. items_ask x seen (ms ++ ns)) V c) (value_there a.item n place t item) m in
    let asks = (recorded_value a.item n t).asks c seen in
    let rest = items_ask (under ((recorded_value a.item n t).adds c ++ c.env) c) (seen_too seen no_names) ns in
    let sure = sure_left (judgements c.kept asks) (judgements c.kept rest) (subst AreSure (judged_both c.kept asks rest) met.sure) in
    let is : c.chosen.type_at (type_specified a.item n t).node ≡ v.type = elim (v.decided V c met.enters.env (fits_loosely a.store.nodes V met.enters.fits) met.enters.agrees (hold_left c.kept asks rest met.holds)) [
      | inl same ↦ same
      | inr short ↦ absurd (never_sure (judgements c.kept asks) v.judged sure short)
    ] in
    v.added (subst IsKnown is known)

-- where each judgement keeps its demand none is refused
sure_kept : (js : List Judgement) → AreSure js → refused js ≡ 0
sure_kept [] h = refl
sure_kept (j ∷ js) h = let later = sure_kept js h.2 in (λ i. (if h.0 i then 0 else 1) + later i)

none_told : (rs : List Report) → length rs ≡ 0 → rs ≡ []
none_told [] e = refl
none_told (r ∷ rs) e = absurd (omega (arith, e))

-- Of items of which one typing is known that keeps every demand nothing is reported.
pub met_silent : {E : Choice → Environment} {asks : Asks} {a b : Sight} {G H : Letters} (p : ItemsCarried E asks a G b H) (V : Types) (c : Context) → AllMet E a G asks V c → b.reports ≡ a.reports
met_silent {asks = asks} {a = a} p V c met = elim (p.complete V c met.enters met.holds) [
  | inl goes ↦ p.reports ∙ ap (λ rs. a.reports ++ rs) (none_told p.told (p.counted ∙ ap refused (sym goes.same) ∙ sure_kept (judgements c.kept (asks c)) met.sure)) ∙ append-nil a.reports
  | inr short ↦ absurd (never_sure (judgements c.kept (asks c)) p.judged met.sure short)
]

-- So a value at an operand is done, and adds its name.
pub value_specified : (a b : Parts) (env after : List Entry) (n : ℕ) (place : Place) (t : Tree) (G : Letters) (E : Choice → Environment) (seen : Seen) → IsValueNode n t → is_aloud a.telling ≡ true → (at : Outside as_declared (sight a) G env E) → HasConstants a → AreNoted at.older a → GivesValue a b env after n t →
    (ns : List Item) (V : Types) (c : Context) → AllMet E (sight a) G (λ x. items_ask x seen (specification_at a.item (numbered n place (inner t)) ++ ns)) V c → IsKnown (c.chosen.type_at (type_specified a.item n t).node) →
    ItemsAdded E (specification_at a.item (numbered n place (inner t))) seen seen a b G after
value_specified a b env after n place t G E seen item aloud at constants noted gives ns V c m known =
    let v = value_is_added a b env after n place t G E seen item aloud at constants noted gives ns V c m known in
    subst (λ ms. ItemsAdded E ms seen seen a b G after) (sym (value_there a.item n place t item)) (subst (λ names. ItemsAdded E (recorded_value a.item n t ∷ []) seen names a b G after) (none_too seen) (items_added_one (record { done = v.done; alike = v.alike; untyped = record { types = v.grows.on.types } })))
