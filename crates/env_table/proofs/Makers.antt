-- All entries that make an origin stand among those with its hash.
use Rattle.std.proofs.Common.{◌≡◌, List, Bool, true, sym, ap, Option, Some, None}
use Rattle.std.proofs.lemmas.Slice.Eq.{bytes_eq-Decides}
use Rattle.type_model.specs.Types.{Path}
use Rattle.signature_model.specs.Lookups.{newest_by}
use Rattle.signature_model.specs.Records.{is_of_type}
use Rattle.env_table.specs.declared.entries.Entry.{Entry}
use Rattle.env_table.specs.Views.{makes}
use Rattle.env_table.specs.Index.{hash_of_path, bits_of, origin_key, stands_by, makers}
use Rattle.env_table.proofs.Bits.{same_bits_itself}
use Rattle.env_table.proofs.Newest.{newest_among}

-- what is of an origin is it
origin_is : (o : Path) (m : Option Path) → is_of_type o m ≡ true → m ≡ Some o
origin_is o None h = absurd (cc)
origin_is o (Some p) h = ap Some (sym ((bytes_eq-Decides o p).0 h))

-- an entry that makes an origin has its hash
pub maker_stands : (o : Path) (e : Entry) → is_of_type o (makes e) ≡ true → stands_by origin_key (bits_of 16 (hash_of_path o)) e ≡ true
maker_stands o e h = rw (origin_is o (makes e) h) (same_bits_itself (bits_of 16 (hash_of_path o)))

-- so what is sought of those that make it is found among these
pub newest_maker : (o : Path) (test : Entry → Bool) → ((e : Entry) → test e ≡ true → is_of_type o (makes e) ≡ true) → (es : List Entry) → newest_by test (makers o es) ≡ newest_by test es
newest_maker o test h es = newest_among test (stands_by origin_key (bits_of 16 (hash_of_path o))) (λ e t. maker_stands o e (h e t)) es
