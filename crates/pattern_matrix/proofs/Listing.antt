-- Lists of patterns and lists within patterns.
use Rattle.std.proofs.Common.{◌≡◌, ℕ, zero, suc, ◌+◌, arith, true, List, [], ◌∷◌, ◌++◌, length, map, cond, refl, sym, ap, ◌∙◌, Vec, Global}
use Rattle.std.specs.declared.rc.Rc.{Rc}
use Rattle.text_terms.specs.Bytes.{str_bytes}
use Rattle.text_terms.specs.declared.RcStr.{RcStr}
use Rattle.signature_model.specs.Declarations.{Name}
use Rattle.pattern_matrix.specs.Lines.{Member, Typed, Typeds, none, also, con, lit, either, listed, items_of, Line, Head, is_built, under, open_shapes}
use Rattle.match_model.specs.Values.{open_shape}
use Rattle.pattern_matrix.specs.Weights.{number_of}
use Rattle.pattern_matrix.specs.Views.{typed_of, typed_step, members_of}
use Rattle.pattern_matrix.specs.declared.patterns.Built.{Built}
use Rattle.pattern_matrix.specs.declared.patterns.Pat.{Pat}
use Rattle.pattern_matrix.specs.declared.patterns.Pat.TheVariants.{Con, Literal, Either, rolls-Con, rolls-Literal, rolls-Either}
use Rattle.pattern_matrix.specs.declared.patterns.Pat.TheOpen.{Pat-F}
use Rattle.pattern_matrix.specs.declared.patterns.Pat.TheFolds.{fold-roll-Pat}

pub items_of-listed : (ps : List Typed) → items_of (listed ps) ≡ ps
items_of-listed [] = refl
items_of-listed (p ∷ ps) = ap (λ qs. p ∷ qs) (items_of-listed ps)

pub number_of-items : (ps : Typeds) → length (items_of ps) ≡ number_of ps
number_of-items none = refl
number_of-items (also p ps) = ap suc (number_of-items ps)

-- what the patterns of the code mean
pub con-typed : (all : Rc (Vec Built Global) Global) (name : RcStr) (parts : Vec Pat Global) →
    typed_of (Con all name parts) ≡ con (members_of all.value.items) (str_bytes name) (listed (map typed_of parts.items))
con-typed all name parts = ap typed_of (sym (rolls-Con all name parts)) ∙ fold-roll-Pat Typed typed_step (Pat-F.Con all name parts)

-- a constructor leaves its own parts
pub built-under : (h : Head) (all : List Member) (n : Name) (ps : List Typed) (rest cells : Line) → is_built h n ≡ true → cells ≡ ps ++ rest →
    under h (con all n (listed ps)) rest ≡ cells ∷ []
built-under h all n ps rest cells fits e =
    let own = items_of-listed ps in
    ap (λ b. cond b ((items_of (listed ps) ++ rest) ∷ []) []) fits ∙ ap (λ qs. (qs ++ rest) ∷ []) own ∙ ap (λ l. l ∷ []) (sym e)

open_shapes-suc : (n : ℕ) → open_shapes (suc n) ≡ open_shapes n ++ open_shape ∷ []
open_shapes-suc zero = refl
open_shapes-suc (suc n) = ap (λ l. open_shape ∷ l) (open_shapes-suc n)

-- one open shape more
pub open_shapes_more : (n : ℕ) → open_shapes (n + 1) ≡ open_shapes n ++ open_shape ∷ []
open_shapes_more n = let s : n + 1 ≡ suc n = omega arith in ap open_shapes s ∙ open_shapes-suc n

pub lit-typed : (name : RcStr) → typed_of (Literal name) ≡ lit (str_bytes name)
lit-typed name = ap typed_of (sym (rolls-Literal name)) ∙ fold-roll-Pat Typed typed_step (Pat-F.Literal name)

pub either-typed : (pats : Vec Pat Global) → typed_of (Either pats) ≡ either (listed (map typed_of pats.items))
either-typed pats = ap typed_of (sym (rolls-Either pats)) ∙ fold-roll-Pat Typed typed_step (Pat-F.Either pats)
