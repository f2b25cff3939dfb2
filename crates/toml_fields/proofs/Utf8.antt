-- UTF-8 as a test.
use Rattle.std.proofs.Common.{◌≡◌, ℕ, List, None, inl, inr}
use Rattle.std.specs.Prelude.{IsUtf8}
use Rattle.std.specs.Str.{is_utf8}
use Rattle.std.proofs.lemmas.Bool.{cases_Bool}
use Rattle.std.proofs.lemmas.Str.{is_utf8-from_IsUtf8, IsUtf8-from_is_utf8}
use Rattle.toml.specs.Parse.{parse_document}
use Rattle.toml_fields.specs.Document.{document_of}

-- what is no document, where it may be no text
pub no_document : (bytes : List ℕ) → (IsUtf8 bytes → parse_document bytes ≡ None) → document_of bytes ≡ None
no_document bytes refused =
    elim (cases_Bool (is_utf8 bytes)) [
      | inl text ↦ rw text (refused (IsUtf8-from_is_utf8 bytes text))
      | inr other ↦ rw other
    ]

pub ruleset utf8 = (is_utf8-from_IsUtf8, no_document)
