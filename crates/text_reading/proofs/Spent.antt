-- What it takes to try a text.
use Rattle.std.proofs.Common.{◌≡◌, ◌∙◌, inl, inr, ℕ, ◌+◌, ◌-◌, ◌≤◌, List, [], ◌∷◌, ◌++◌, length, ap, sym, subst, arith, Bool, true, Option, Some, None, IfSome, Result, Ok, Err, OnOk}
use Rattle.std.specs.Prelude.{OnErr, is_none, is_some, ◌&&◌}
use Rattle.std.proofs.lemmas.List.{length-map, take_all}
use Rattle.token_model.specs.Kinds.{Tok}
use Rattle.token_model.specs.Tokens.{Lex}
use Rattle.syntax_tree.specs.Tallies.{Tallies}
use Rattle.syntax_tree.specs.View.{node_view, trees_of}
use Rattle.tree_model.specs.Trees.{Tree}
use Rattle.frame_parser.specs.declared.whole.Parsed.{Parsed}
use Rattle.analysis_api.specs.Typed.{more_typed, GoesOn, LongestFront}
use Rattle.text_reading.specs.Structures.{AreItemsOf}
use Rattle.text_reading.specs.Trials.{ReadsWhole, Tried, Tries, TriesAll, TypesSome}
use Rattle.text_reading.specs.Types.{has_begun, held, known, opening}
use Rattle.analysis_api.specs.declared.Analyser.{Ghosts}
use Rattle.text_reading.specs.declared.types.KeptTypes.{KeptTypes}
use Rattle.text_reading.proofs.Knowing.{known_held}

-- a typer that was given the items of a text, for want of memory too
pub typed_some : {A T E : Type 0} {g : Ghosts A} (items : A → List Tree) (r : Result T E) (before after : KeptTypes A g) (text : List ℕ) (p : Parsed) (a b : Tallies) → AreItemsOf text (trees_of p.tree) → OnOk r (known items after ≡ Some (trees_of p.tree))
    → OnOk r ((n : ℕ) × LongestFront (held items before) (trees_of p.tree) n × (b.typed ≡ more_typed (length p.tree.items.items - n) a.typed)) → OnErr r (GoesOn (held items before) (trees_of p.tree) (held items after) a.typed b.typed)
    → TypesSome text (held items before) (held items after) a.typed b.typed
typed_some items (Ok x) before after text p a b are there (n, longest, typed) failed =
    let right = longest.front.right in
    let count = length (trees_of p.tree) - n in inr (
      trees_of p.tree,
      are,
      record {
        same = n;
        front = longest;
        more = count;
        within = omega (arith, right);
        holds = known_held items after (trees_of p.tree) there ∙ sym (take_all (n + count) (trees_of p.tree) (omega (arith, right)));
        typed = typed ∙ ap (λ k. more_typed (k - n) a.typed) (sym (length-map p.tree.items.items (λ i. node_view i.value)));
      },
    )
typed_some items (Err e) before after text p a b are there typed failed = inr (trees_of p.tree, are, failed)

-- a text of which nothing was typed
pub tries_idle : (opens text : List ℕ) (old new : Tried) (a b : Tallies) → (new.begun ≡ old.begun) × (new.holds ≡ old.holds) → b.typed ≡ a.typed → ReadsWhole text a b → Tries opens text old new a b
tries_idle opens text old new a b (begun, holds) typed read = record { types = inl (holds, typed); begun = λ is. begun ∙ is; reads = λ is ps first. read }

-- one that was read, and then typed
pub tries_typed : (opens text : List ℕ) (old new : Tried) (a b c : Tallies) → b.typed ≡ a.typed → TypesSome text old.holds new.holds b.typed c.typed → (old.begun ≡ true → new.begun ≡ true) → ReadsWhole text a b
    → (old.begun ≡ true → (ps : List Tok) → Lex opens ps → (c.lexed ≤ b.lexed) × (c.shifted ≤ b.shifted)) → Tries opens text old new a c
tries_typed opens text old new a b c typed types begun read unread = record {
  types = subst (λ (n : ℕ). TypesSome text old.holds new.holds n c.typed) typed types;
  begun = begun;
  reads = λ is ps first ts lex. let (lexed, shifted) = read ts lex in let (unlexed, unshifted) = unread is ps first in (omega (arith, lexed, unlexed), omega (arith, shifted, unshifted));
}

-- one whose tree the typer was given
pub tries_refreshed : {A T E : Type 0} {g : Ghosts A} (items : A → List Tree) (r : Result T E) (opens text own : List ℕ) (ready : Bool) (old : Tried) (mid after : KeptTypes A g) (p : Parsed) (a b c : Tallies) → AreItemsOf text (trees_of p.tree) → held items mid ≡ old.holds → has_begun mid ≡ old.begun
    → OnOk r (known items after ≡ Some (trees_of p.tree)) → OnOk r ((n : ℕ) × LongestFront (held items mid) (trees_of p.tree) n × (c.typed ≡ more_typed (length p.tree.items.items - n) b.typed))
    → OnErr r (GoesOn (held items mid) (trees_of p.tree) (held items after) b.typed c.typed) → b.typed ≡ a.typed → ReadsWhole text a b → (has_begun mid ≡ true → has_begun after ≡ true)
    → ((ps : List Tok) → Lex opens ps → c.lexed ≤ b.lexed + opening (length ps) (has_begun mid)) → ((ps : List Tok) → Lex opens ps → c.shifted ≤ b.shifted + opening (length ps) (has_begun mid)) → Tries opens text old (record { text = own; begun = has_begun after; ready = ready; holds = held items after }) a c
tries_refreshed items r opens text own ready old mid after p a b c are holds begun there typed failed untyped read stays lexed shifted =
    tries_typed opens text old (record { text = own; begun = has_begun after; ready = ready; holds = held items after }) a b c untyped
    (subst (λ (hs : List Tree). TypesSome text hs (held items after) b.typed c.typed) holds (typed_some items r mid after text p b c are there typed failed)) (λ is. stays (begun ∙ is)) read
    (λ is ps lex. let here = ap (opening (length ps)) (begun ∙ is) in (omega (arith, lexed ps lex, here), omega (arith, shifted ps lex, here)))

-- where these texts were tried and then those, all of them were
pub tries_join : (opens : List ℕ) (s t u : Tried) (xs ys : List (List ℕ)) (a b c : Tallies) → TriesAll opens xs s t a b → TriesAll opens ys t u b c → TriesAll opens (ys ++ xs) s u a c
tries_join opens s t u xs [] a b c first (same, idle) = subst (λ (v : Tried). TriesAll opens xs s v a c) (sym same) (subst (λ (n : Tallies). TriesAll opens xs s t a n) (sym idle) first)
tries_join opens s t u xs (y ∷ ys) a b c first (mid, between, before, one) = (mid, between, tries_join opens s t mid xs ys a b between first before, one)

-- ---- what is known of the tree that is kept

-- nothing
pub bound_none : (tree : List Tree) (k : Option (List Tree)) → k ≡ None → IfSome k (λ items. items ≡ tree)
bound_none tree k is = subst (λ (o : Option (List Tree)). IfSome o (λ items. items ≡ tree)) (sym is) tt

-- the items that the typer was given, or nothing
pub bound_again : {T E : Type 0} (r : Result T E) (tree items : List Tree) (k : Option (List Tree)) → items ≡ tree → OnOk r (k ≡ Some items) → OnErr r (k ≡ None) → IfSome k (λ xs. xs ≡ tree)
bound_again (Ok x) tree items k same there failed = subst (λ (o : Option (List Tree)). IfSome o (λ xs. xs ≡ tree)) (sym there) same
bound_again (Err e) tree items k same there failed = bound_none tree k failed

-- what is known are the items of the tree
pub bound_items : (items tree : List Tree) (k : Option (List Tree)) → Some items ≡ k → IfSome k (λ xs. xs ≡ tree) → items ≡ tree
bound_items items tree k is bound = subst (λ (o : Option (List Tree)). IfSome o (λ xs. xs ≡ tree)) (sym is) bound

-- where no change is noted and the typer was given the items, tree and types are known
pub ready_ok : {T E : Type 0} (r : Result T E) (changed : Option ℕ) (items : List Tree) (k : Option (List Tree)) → changed ≡ None → OnOk r (k ≡ Some items) → OnOk r ((is_none changed && is_some k) ≡ true)
ready_ok (Ok x) changed items k none there = ap (λ (o : Option ℕ). is_none o && is_some k) none ∙ ap is_some there
ready_ok (Err e) changed items k none there = tt
