-- What items ask goes together, and what they add is one where it is kept alike.
use Rattle.std.proofs.Common.{◌≡◌, ℕ, Bool, List, [], ◌∷◌, ◌++◌, reverse, Option, Some, None, refl, ◌∙◌, ap}
use Rattle.token_model.specs.Kinds.{Tok}
use Rattle.type_model.specs.Types.{Typ}
use Rattle.type_model.specs.Schemes.{Scheme}
use Rattle.signature_model.specs.Declarations.{in_text}
use Rattle.signature_model.specs.Signatures.{Structure, Component, Value}
use Rattle.signature_model.specs.Entries.{Entry}
use Rattle.typing_model.specs.Contexts.{Context, Bound, under, entries_with, generalised_in}
use Rattle.typing_model.specs.Parts.{Binding, ConstructorPart, DeclarationPart, Item, Seen, seen_too}
use Rattle.typing_model.specs.Bindings.{names_of_group, held_by}
use Rattle.typing_model.specs.Items.{inside_item, names_made, then_components, value_components, let_item, type_item, no_item, exception_item, items_ask, components_of_items, made_by_items, newest_alone, signature_of_items}
use Rattle.typing_laws.proofs.Together.{Kept, keeping, Together, at_end, at_made, Agreed, agree_left, agree_right, behind, along}
use Rattle.typing_laws.proofs.Whole.{weaken}
use Rattle.typing_laws.proofs.Steady.{Each, no_one, one_and, IfThere, absent, there, SameName, SteadyBinding, SteadyConstructor, SteadyDeclaration, SteadyItem, entries_alike}
use Rattle.typing_laws.proofs.SteadyBindings.{bindings_alike, group_names_one, held_alike}
use Rattle.typing_laws.proofs.SteadyDeclarations.{group_alike, group_one, group_entries, group_components, group_origins, exception_alike}

names_made_alike : {k m : Kept} (n : ℕ) (c d : Context) (bs : List Bound) → Together k m (names_made n c bs) (names_made n d bs)
names_made_alike n c d [] = at_end
names_made_alike n c d (b ∷ bs) = at_made (names_made_alike n c d bs)

values_alike : {k m : Kept} (scheme : Typ → Scheme) (c : Context) (bs : List Bound) → Each (SameName k m) bs → value_components scheme (keeping k c) bs ≡ value_components scheme (keeping m c) bs
values_alike scheme c [] no_one = refl
values_alike {k} {m} scheme c (b ∷ bs) (one_and s each) =
    ap (λ t. Component b.name (in_text b.place) (Value (scheme t)) (value_components scheme (keeping k c) bs)) (s.one c) ∙
    ap (λ cs. Component b.name (in_text b.place) (Value (scheme (b.has_type (keeping m c)))) cs) (values_alike scheme c bs each)

pub let_item_steady : {k m : Kept} (n : ℕ) (ts : List Tok) (is_rec : Bool) (bs : List Binding) → Each (SteadyBinding k m) bs → SteadyItem k m (let_item n ts is_rec bs)
let_item_steady {k} {m} n ts is_rec bs each = record {
  asks = λ c seen. behind (weaken (bindings_alike (inside_item n ts c) is_rec bs each)) (λ a. names_made_alike n (inside_item n ts (keeping k c)) (inside_item n ts (keeping m c)) (names_of_group bs));
  adds = λ c seen a.
      entries_alike (generalised_in c.env (held_by (inside_item n ts (keeping k c)) bs)) (inside_item n ts c) [] (group_names_one bs each) ∙
      ap (λ hs. entries_with (generalised_in c.env hs) (inside_item n ts (keeping m c)) (names_of_group bs) []) (held_alike (inside_item n ts c) bs each);
  components = λ c seen a.
      values_alike (generalised_in c.env (held_by (inside_item n ts (keeping k c)) bs)) (inside_item n ts c) (names_of_group bs) (group_names_one bs each) ∙
      ap (λ hs. value_components (generalised_in c.env hs) (inside_item n ts (keeping m c)) (names_of_group bs)) (held_alike (inside_item n ts c) bs each);
  named = λ c seen a. refl;
  makes = λ c seen a. refl;
}

pub type_item_steady : {k m : Kept} (n : ℕ) (ds : List DeclarationPart) → Each (SteadyDeclaration k m) ds → SteadyItem k m (type_item n ds)
type_item_steady n ds each = record {
  asks = λ c seen. group_alike c seen.types ds each;
  adds = λ c seen a. ap reverse (group_entries c ds ds (group_one c seen.types ds a));
  components = λ c seen a. group_components c ds ds (group_one c seen.types ds a);
  named = λ c seen a. refl;
  makes = λ c seen a. group_origins c ds ds (group_one c seen.types ds a);
}

pub no_item_steady : {k m : Kept} (n : ℕ) → SteadyItem k m (no_item n)
no_item_steady n = record { asks = λ c seen. at_end; adds = λ c seen a. refl; components = λ c seen a. refl; named = λ c seen a. refl; makes = λ c seen a. refl }

pub exception_item_steady : {k m : Kept} (n : ℕ) (x : Option ConstructorPart) → IfThere (SteadyConstructor k m) x → SteadyItem k m (exception_item n x)
exception_item_steady n None absent = no_item_steady n
exception_item_steady n (Some x) (there s) =
    record { asks = λ c seen. exception_alike c x s; adds = λ c seen a. refl; components = λ c seen a. refl; named = λ c seen a. refl; makes = λ c seen a. refl }

-- items one after the other
pub pair_alike : {A B : Type 0} (a c : A) (b d : B) → a ≡ c → b ≡ d → ◌≡◌ {A = A × B} (a, b) (c, d)
pair_alike a c b d e f = cc

pub items_alike : {k m : Kept} (c : Context) (seen : Seen) (xs : List Item) → Each (SteadyItem k m) xs → Together k m (items_ask (keeping k c) seen xs) (items_ask (keeping m c) seen xs)
items_alike c seen [] no_one = at_end
items_alike {k} {m} c seen (i ∷ xs) (one_and s each) =
    behind (s.asks c seen) (λ a.
    along {A = List Entry × Seen} (λ z. items_ask (under (z.0 ++ c.env) (keeping k c)) (seen_too seen z.1) xs) (λ z. items_ask (under (z.0 ++ c.env) (keeping m c)) (seen_too seen z.1) xs)
    (pair_alike (i.adds (keeping k c)) (i.adds (keeping m c)) (i.named (keeping k c)) (i.named (keeping m c)) (s.adds c seen a) (s.named c seen a))
    (items_alike (under (i.adds (keeping k c) ++ c.env) c) (seen_too seen (i.named (keeping k c))) xs each))

pub components_alike : {k m : Kept} (c : Context) (seen : Seen) (xs : List Item) → Each (SteadyItem k m) xs → Agreed k m (items_ask (keeping k c) seen xs) → components_of_items (keeping k c) xs ≡ components_of_items (keeping m c) xs
components_alike c seen [] no_one a = refl
components_alike {k} {m} c seen (i ∷ xs) (one_and s each) a =
    let b : Agreed k m (i.asks (keeping k c) seen) = agree_left _ _ a in
    let rest = components_alike (under (i.adds (keeping k c) ++ c.env) c) (seen_too seen (i.named (keeping k c))) xs each (agree_right (i.asks (keeping k c) seen) _ a) in
    ap (λ cs. then_components cs (components_of_items (under (i.adds (keeping k c) ++ c.env) (keeping k c)) xs)) (s.components c seen b) ∙
    ap (then_components (i.components (keeping m c))) (rest ∙ ap (λ es. components_of_items (under (es ++ c.env) (keeping m c)) xs) (s.adds c seen b))

pub made_alike : {k m : Kept} (c : Context) (seen : Seen) (xs : List Item) → Each (SteadyItem k m) xs → Agreed k m (items_ask (keeping k c) seen xs) → made_by_items (keeping k c) xs ≡ made_by_items (keeping m c) xs
made_alike c seen [] no_one a = refl
made_alike {k} {m} c seen (i ∷ xs) (one_and s each) a =
    let b : Agreed k m (i.asks (keeping k c) seen) = agree_left _ _ a in
    let rest = made_alike (under (i.adds (keeping k c) ++ c.env) c) (seen_too seen (i.named (keeping k c))) xs each (agree_right (i.asks (keeping k c) seen) _ a) in
    ap (λ os. os ++ made_by_items (under (i.adds (keeping k c) ++ c.env) (keeping k c)) xs) (s.makes c seen b) ∙
    ap (λ os. i.makes (keeping m c) ++ os) (rest ∙ ap (λ es. made_by_items (under (es ++ c.env) (keeping m c)) xs) (s.adds c seen b))

pub items_sign_alike : {k m : Kept} (c : Context) (seen : Seen) (xs : List Item) → Each (SteadyItem k m) xs → Agreed k m (items_ask (keeping k c) seen xs) → signature_of_items (keeping k c) xs ≡ signature_of_items (keeping m c) xs
items_sign_alike c seen xs each a = ap (λ cs. Structure (newest_alone cs)) (components_alike c seen xs each a)
