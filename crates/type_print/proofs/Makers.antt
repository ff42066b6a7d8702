-- The name of an origin in one scope: that of the newest type that makes it and that no newer type of its name hides.
use Rattle.std.proofs.Common.{◌≡◌, inl, inr, suc, ◌≤◌, Bool, true, List, [], ◌∷◌, Some, None, refl, ap, subst, arith}
use Rattle.std.specs.Prelude.{option_map}
use Rattle.std.specs.Str.{bytes_eq}
use Rattle.std.proofs.lemmas.Slice.Eq.{bytes_eq-Decides}
use Rattle.text_terms.specs.Bytes.{str_bytes}
use Rattle.type_model.specs.Types.{Path}
use Rattle.signature_model.specs.Declarations.{Name}
use Rattle.signature_model.specs.Entries as rules
use Rattle.signature_model.specs.Lookups.{same_kind, newest_by}
use Rattle.signature_model.specs.Records.{is_of_type}
use Rattle.type_print_model.specs.Paths.{age}
use Rattle.env_table.specs.declared.entries.Entry.{Entry}
use Rattle.env_table.specs.Views.{kind_of, is_named, makes}
use Rattle.env_table.specs.Index.{makers}
use Rattle.env_table.proofs.Makers.{newest_maker}
use Rattle.type_print.specs.Paths.{is_maker, finds, gives_name, name_for}
use Rattle.type_print.proofs.Ranks.{tells, opt_tells, both, both_true}

-- what gives an origin a name makes it
giver_makes : (o : Path) (es : List Entry) (e : Entry) → gives_name o es e ≡ true → is_of_type o (makes e) ≡ true
giver_makes o es e h = (both (same_kind rules.type_kind (kind_of e.kind)) (is_of_type o (makes e)) (both (is_maker o e) (finds o (str_bytes e.name) es) h).0).1

-- so it is found among those that may make it
pub among_makers : (o : Path) (es : List Entry) → newest_by (gives_name o es) (makers o es) ≡ newest_by (gives_name o es) es
among_makers o es = newest_maker o (gives_name o es) (giver_makes o es) es

-- the newest entry of a test passes it
newest_passes : (test : Entry → Bool) (es : List Entry) (e : Entry) → newest_by test es ≡ Some e → test e ≡ true
newest_passes test [] e h = absurd (cc)
newest_passes test (x ∷ es) e h = elim (tells (test x)) [
  | inl t ↦ let same : Some x ≡ Some e = rw t at h in (let y : x ≡ e = cc in subst (λ z. test z ≡ true) y t)
  | inr f ↦ newest_passes test es e (rw f at h)
]

-- the name of an origin among entries finds it there
pub name_finds : (o : Path) (n : Name) (es : List Entry) → name_for o es ≡ Some n → finds o n es ≡ true
name_finds o n es h = elim (opt_tells (newest_by (gives_name o es) es)) [
  | inl none ↦ let bad : None ≡ Some n = rw none at h in absurd (cc)
  | inr (e, some) ↦
      let same : Some (str_bytes e.name) ≡ Some n = rw some at h in
      let name : str_bytes e.name ≡ n = cc in
      subst (λ m. finds o m es ≡ true) name (both (is_maker o e) (finds o (str_bytes e.name) es) (newest_passes (gives_name o es) es e some)).1
]

-- an entry in front makes what is behind it at most one older
age_more : (test : Entry → Bool) (x : Entry) (es : List Entry) → age test (x ∷ es) ≤ suc (age test es)
age_more test x es = elim (tells (test x)) [
  | inl t ↦ let s : age test (x ∷ es) ≡ 0 = rw t refl in omega arith
  | inr f ↦ let s : age test (x ∷ es) ≡ suc (age test es) = rw f refl in omega arith
]

-- the newest entry that gives an origin a name is no older than one of a name that finds it
record Earlier (o : Path) (all es : List Entry) (n : Name) : Type 0 where
  pub entry : Entry
  pub gives : newest_by (gives_name o all) es ≡ Some entry
  pub no_older : age (is_named rules.type_kind (str_bytes entry.name)) es ≤ age (is_named rules.type_kind n) es

-- a type of a name that finds the origin, and which makes it, gives it this name
gives : (o : Path) (all : List Entry) (n : Name) (x : Entry) → finds o n all ≡ true → is_named rules.type_kind n x ≡ true → is_of_type o (makes x) ≡ true → gives_name o all x ≡ true
gives o all n x f h i =
    let (kind, name) = both (same_kind rules.type_kind (kind_of x.kind)) (bytes_eq n (str_bytes x.name)) h in
    let same : n ≡ str_bytes x.name = (bytes_eq-Decides n (str_bytes x.name)).0 name in
    both_true (is_maker o x) (finds o (str_bytes x.name) all) (both_true (same_kind rules.type_kind (kind_of x.kind)) (is_of_type o (makes x)) kind i) (subst (λ m. finds o m all ≡ true) same f)

-- what gives a name is a type of its own name
own_type : (o : Path) (all : List Entry) (x : Entry) → gives_name o all x ≡ true → is_named rules.type_kind (str_bytes x.name) x ≡ true
own_type o all x h =
    let kind = (both (same_kind rules.type_kind (kind_of x.kind)) (is_of_type o (makes x)) (both (is_maker o x) (finds o (str_bytes x.name) all) h).0).0 in
    both_true (same_kind rules.type_kind (kind_of x.kind)) (bytes_eq (str_bytes x.name) (str_bytes x.name)) kind ((bytes_eq-Decides (str_bytes x.name) (str_bytes x.name)).1 refl)

-- so it is for each part of the entries in which the newest type of the name makes the origin
earlier : (o : Path) (all : List Entry) (n : Name) (es : List Entry) (e : Entry) → finds o n all ≡ true → newest_by (is_named rules.type_kind n) es ≡ Some e → is_of_type o (makes e) ≡ true → Earlier o all es n
earlier o all n [] e f h i = absurd (cc)
earlier o all n (x ∷ es) e f h i = elim (tells (gives_name o all x)) [
  | inl t ↦
      let own = own_type o all x t in
      let s : age (is_named rules.type_kind (str_bytes x.name)) (x ∷ es) ≡ 0 = rw own refl in
      record { entry = x; gives = rw t refl; no_older = omega arith }
  | inr u ↦ elim (tells (is_named rules.type_kind n x)) [
    | inl own ↦
        let same : Some x ≡ Some e = rw own at h in
        let one : e ≡ x = cc in
        let t = gives o all n x f own (subst (λ y. is_of_type o (makes y) ≡ true) one i) in
        absurd (cc)
    | inr other ↦
        let r = earlier o all n es e f (rw other at h) i in
        let more = age_more (is_named rules.type_kind (str_bytes r.entry.name)) x es in
        let s : age (is_named rules.type_kind n) (x ∷ es) ≡ suc (age (is_named rules.type_kind n) es) = rw other refl in
        let no_older = r.no_older in
        record { entry = r.entry; gives = rw u r.gives; no_older = omega arith }
  ]
]

-- where a name finds an origin it has a name, which is no older
pub record HasName (o : Path) (n : Name) (es : List Entry) : Type 0 where
  pub name : Name
  pub is : name_for o es ≡ Some name
  pub no_older : age (is_named rules.type_kind name) es ≤ age (is_named rules.type_kind n) es

pub has_name : (o : Path) (n : Name) (es : List Entry) → finds o n es ≡ true → HasName o n es
has_name o n es h = elim (opt_tells (newest_by (is_named rules.type_kind n) es)) [
  | inl none ↦ let bad : is_of_type o None ≡ true = rw none at h in absurd (cc)
  | inr (e, some) ↦
      let is : is_of_type o (makes e) ≡ true = rw some at h in
      let r = earlier o es n es e h some is in
      record { name = str_bytes r.entry.name; is = ap (option_map (λ x. str_bytes x.name)) r.gives; no_older = r.no_older }
]
