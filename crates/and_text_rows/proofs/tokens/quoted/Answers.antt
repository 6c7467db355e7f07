use Rattle.std.proofs.Common.{refl, []}
use Rattle.and_language.specs.Tokens.{nothing, plain, doubled_quote, escaped_backslash, escaped_newline}
use Rattle.and_text_rows.proofs.tokens.quoted.Goals as goal

pub quoted_text-requires : goal.quoted_text-requires
quoted_text-requires c = (_, (_, c.as_slice.ensures, plain 105 _ _ refl (plain 116 _ _ refl (doubled_quote _ _ (plain 115 [] [] refl nothing)))))

pub quoted_text-requires-2 : goal.quoted_text-requires-2
quoted_text-requires-2 c = (_, (_, c.as_slice-2.ensures, escaped_backslash _ _ (escaped_newline [] [] nothing)))
