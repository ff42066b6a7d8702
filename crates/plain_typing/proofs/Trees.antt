-- The trees of tokens, four by four.
use Rattle.std.proofs.Common.{◌≡◌, ◌≤◌, ◌<◌, ◌-◌, ◌+◌, ◌*◌, ℕ, Bool, true, false, if◌then◌else◌, Result, Ok, Err, IfOk, IfSome, List, [], ◌∷◌, ◌++◌, length, get_or, take, drop, map, option_map, Option, Some, None, refl, append_assoc, sym, subst, arith}
use Rattle.std.proofs.lemmas.List.{length-map, take_all}
use Rattle.token_model.specs.Kinds.{Tok}
use Rattle.tree_model.specs.Trees.{Tree, AreItemsSized}
use Rattle.std.specs.declared.alloc.AllocError.{AllocError}
use Rattle.syntax_tree.specs.declared.tree.Token.{Token}
use Rattle.syntax_tree.specs.declared.tree.Tree as made
use Rattle.syntax_tree.specs.View.{tok_of, trees_of}
use Rattle.plain_model.specs.Plain.{plain_trees, is_item, item_tree}

-- all of a list, by its length and four
take_rest : {A : Type 0} (n : ℕ) (ws : List A) → n ≡ length ws + 4 → take (n - 4) ws ≡ ws
take_rest n ws h = take_all (n - 4) ws (omega arith)

-- a list of four or more is its first four and the rest
pub first_four : {A : Type 0} (xs : List A) (a b c d : A) → 4 ≤ length xs → a ≡ get_or xs 0 a → b ≡ get_or xs 1 b → c ≡ get_or xs 2 c → d ≡ get_or xs 3 d → xs ≡ a ∷ b ∷ c ∷ d ∷ take (length xs - 4) (drop 4 xs)
first_four [] a b c d h p q r s = absurd (omega arith)
first_four (x ∷ []) a b c d h p q r s = absurd (omega arith)
first_four (x ∷ y ∷ []) a b c d h p q r s = absurd (omega arith)
first_four (x ∷ y ∷ z ∷ []) a b c d h p q r s = absurd (omega arith)
first_four (x ∷ y ∷ z ∷ w ∷ ws) a b c d h p q r s = rw (p, q, r, s, take_rest (length (x ∷ y ∷ z ∷ w ∷ ws)) ws (omega arith)) refl

-- a tree more in front
more_front : (front : List Tree) (t : Tree) (o : Option (List Tree)) → option_map (λ ts. (front ++ t ∷ []) ++ ts) o ≡ option_map (λ ts. front ++ ts) (option_map (λ ts. t ∷ ts) o)
more_front front t None = refl
more_front front t (Some ts) = rw (append_assoc front (t ∷ []) ts) refl

-- an item is one tree more
pub trees_step : (front : List Tree) (a b c d : Tok) (rest : List Tok) → is_item a b c d ≡ true → option_map (λ ts. (front ++ item_tree a b c d ∷ []) ++ ts) (plain_trees rest) ≡ option_map (λ ts. front ++ ts) (plain_trees (a ∷ b ∷ c ∷ d ∷ rest))
trees_step front a b c d rest h = rw h (more_front front (item_tree a b c d) (plain_trees rest))

-- one to three tokens are no items
pub trees_short : (ts : List Tok) → length ts < 4 → (length ts ≡ 0 → ⊥) → plain_trees ts ≡ None
trees_short [] h k = absurd (k refl)
trees_short (a ∷ []) h k = refl
trees_short (a ∷ b ∷ []) h k = refl
trees_short (a ∷ b ∷ c ∷ []) h k = refl
trees_short (a ∷ b ∷ c ∷ d ∷ rest) h k = absurd (omega arith)

-- what is told of the trees of tokens: each tells its true sizes, and stands for four tokens
abbrev Told : List Tok → Option (List Tree) → Type 0
Told ts None = Unit {0}
Told ts (Some trees) = AreItemsSized trees × (length trees * 4 ≡ length ts)

-- an item in front is told of as well
told_item : (a b c d : Tok) (rest : List Tok) (o : Option (List Tree)) → Told rest o → Told (a ∷ b ∷ c ∷ d ∷ rest) (option_map (λ ts. item_tree a b c d ∷ ts) o)
told_item a b c d rest None h = tt
told_item a b c d rest (Some ts) h = (((refl, (tt, ((refl, ((refl, (tt, tt)), (tt, ((refl, (tt, tt)), tt)))), tt))), omega arith, h.0), omega (arith, h.1))

-- whether the first four tokens are an item or not
told_test : (a b c d : Tok) (rest : List Tok) (test : Bool) → Told rest (plain_trees rest) → Told (a ∷ b ∷ c ∷ d ∷ rest) (if test then option_map (λ ts. item_tree a b c d ∷ ts) (plain_trees rest) else None)
told_test a b c d rest true h = told_item a b c d rest (plain_trees rest) h
told_test a b c d rest false h = tt

-- so it holds of the trees of all tokens
plain_told : (ts : List Tok) → Told ts (plain_trees ts)
plain_told [] = (tt, refl)
plain_told (a ∷ []) = tt
plain_told (a ∷ b ∷ []) = tt
plain_told (a ∷ b ∷ c ∷ []) = tt
plain_told (a ∷ b ∷ c ∷ d ∷ rest) = told_test a b c d rest (is_item a b c d) (plain_told rest)

-- the trees of tokens tell their true sizes
pub trees_sized : (ts : List Tok) (r : Result (Option made.Tree) AllocError) → IfOk r (λ o. option_map trees_of o ≡ plain_trees ts) → IfOk r (λ o. IfSome o (λ t. AreItemsSized (trees_of t)))
trees_sized ts (Ok None) e = tt
trees_sized ts (Ok (Some t)) e = (subst (λ o. Told ts o) (sym e) (plain_told ts)).0
trees_sized ts (Err x) e = tt

-- and there is one for four tokens
pub trees_count : (tokens : List Token) (r : Result (Option made.Tree) AllocError) → IfOk r (λ o. option_map trees_of o ≡ plain_trees (map tok_of tokens)) → IfOk r (λ o. IfSome o (λ t. length (trees_of t) * 4 ≡ length tokens))
trees_count tokens (Ok None) e = tt
trees_count tokens (Ok (Some t)) e = rw (← length-map tokens tok_of) (subst (λ o. Told (map tok_of tokens) o) (sym e) (plain_told (map tok_of tokens))).1
trees_count tokens (Err x) e = tt
