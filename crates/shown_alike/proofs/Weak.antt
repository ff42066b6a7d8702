-- In a text of `let` and `;;` the weak variables of two typings are renamed ones of each other, so one text is shown of each node.
use Rattle.std.proofs.Common.{◌≡◌, ◌∙◌, ℕ, Bool, true, false, List, Some, sym, ap}
use Rattle.std.specs.Prelude.{slice_get}
use Rattle.tree_model.specs.Trees.{Tree}
use Rattle.query_model.specs.TypedNodes.{Typed}
use Rattle.signature_model.specs.Entries.{Environment, free_in}
use Rattle.typing_model.specs.Contexts.{Choice}
use Rattle.typing_model.specs.Demands.{Site}
use Rattle.typing_model.specs.Items.{behind_items}
use Rattle.typing_model.specs.Meanings.{items_of}
use Rattle.typing_model.specs.Plain.{has_no_modules, has_lets_alone}
use Rattle.typing_model.specs.Typings.{outermost}
use Rattle.typing_laws.specs.Renaming.{KeepsWeak, AreRenamed, at_node, AreRenamedChoices}
use Rattle.typing_laws.proofs.BesideTexts.{free_behind, alike_at}
use Rattle.typing_laws.proofs.Closed.{first_closed}
use Rattle.typing_laws.proofs.Settled.{lets_values, lets_plain}
use Rattle.typed_model.specs.Shown.{number_of, IsTypingOf, AreShown}
use Rattle.typed_model.specs.Weak.{AreWeak}
use Rattle.shown_alike.specs.Told.{IsTold}
use Rattle.shown_alike.proofs.Behind.{nodes_alone, nodes_renamed, behind_nodes}
use Rattle.shown_alike.proofs.Shown.{kept_one, typings_renamed, two_shown_renamed}

-- where two choices are renamings of each other, so are the variables that are free after the items
free_kept : (items : List Tree) → has_no_modules items ≡ true → (env names : Environment) (kept others : Site → Bool) (choice other : Choice) → env ≡ names → kept ≡ others → ((v : ℕ) → free_in v env ≡ false) → (r : AreRenamedChoices choice other) →
    (weak weaks : List ℕ) → AreWeak items env kept choice weak → AreWeak items names others other weaks → (n : ℕ) → KeepsWeak r.forth weak weaks (choice.type_at n)
free_kept items plain env names kept others choice other p q closed r weak weaks w u n v o =
    u (r.forth v)
    ∙ ap (λ E. free_in (r.forth v) (behind_items (outermost E others other) (items_of items))) (sym p)
    ∙ ap (λ K. free_in (r.forth v) (behind_items (outermost env K other) (items_of items))) (sym q)
    ∙ alike_at r (λ x. free_in x (behind_items (outermost env kept choice) (items_of items))) (λ x. free_in x (behind_items (outermost env kept other) (items_of items))) (free_behind env items kept choice other r closed plain) v (at_node n o)
    ∙ sym (w v)

-- a list of weak variables is one of the types of nodes alone
weak_at_nodes : {choice other : Choice} (r : AreRenamedChoices choice other) (items : List Tree) → has_lets_alone items ≡ true → (env : Environment) (kept : Site → Bool) (ch : Choice) (weak : List ℕ) →
    AreWeak items env kept ch weak → AreWeak items env kept (nodes_alone ch) weak
weak_at_nodes r items lets env kept ch weak w v = w v ∙ ap (free_in v) (behind_nodes r env items kept ch lets)

-- so in two principal typings, the renaming of the types keeps which variables are weak
pub weak_kept : (items : List Tree) → has_lets_alone items ≡ true → (a b : IsTypingOf items) → a.env ≡ b.env → (r : AreRenamed a.choice.type_at b.choice.type_at) (weak weaks : List ℕ) →
    AreWeak items a.env a.kept a.choice weak → AreWeak items b.env b.kept b.choice weaks → (n : ℕ) → KeepsWeak r.forth weak weaks (a.choice.type_at n)
weak_kept items lets a b same r weak weaks w u n =
    let z = nodes_renamed a.choice b.choice r in
    free_kept items (lets_plain items lets) a.env b.env a.kept b.kept (nodes_alone a.choice) (nodes_alone b.choice) same (kept_one items (lets_values items lets) a b same) (first_closed a.env a.first) z weak weaks
    (weak_at_nodes z items lets a.env a.kept a.choice weak w) (weak_at_nodes z items lets b.env b.kept b.choice weaks u) n

-- So two ways in which the nodes of items that are `let` and `;;` alone are shown are one at each place whose node is told with its type.
pub lets_shown_alike : (items : List Tree) (nodes : List Typed) (texts others : List (List ℕ)) → has_lets_alone items ≡ true → (a : AreShown items nodes texts) (b : AreShown items nodes others) → a.typing.env ≡ b.typing.env →
    (k : ℕ) (n : Typed) (shown other : List ℕ) → slice_get nodes k ≡ Some n → slice_get texts k ≡ Some shown → slice_get others k ≡ Some other → IsTold a.typing n → IsTold b.typing n → shown ≡ other
lets_shown_alike items nodes texts others lets a b same k n shown other here one two told too =
    let values = lets_values items lets in
    let r = typings_renamed items values a.typing b.typing same in
    two_shown_renamed items nodes texts others values a b same r k n shown other here one two told too
    (weak_kept items lets a.typing b.typing same r a.weak b.weak (a.are_weak lets) (b.are_weak lets) (number_of n.id))
