-- The code's types in the rules' words. Assumes nothing: these are definitions.
use Rattle.std.specs.Prelude.{Option, Some, None}
use Rattle.spec.specs.Grammar.Encodings as Rule
use Rattle.encodings.specs.declared.codings.Coding.{Coding}
use Rattle.encodings.specs.declared.codings.Coding.TheVariants.{Utf8, Bytes, Foreign}
use Rattle.encodings.specs.declared.wide.Wide.{Wide}
use Rattle.encodings.specs.declared.wide.Wide.TheVariants.{Utf16Be, Utf16Le, Utf32Be, Utf32Le}

unfoldable pub of : Coding → Rule.Coding
of Utf8 = Rule.in_utf8
of Bytes = Rule.in_bytes
of Foreign = Rule.foreign

unfoldable pub width : Option Wide → Rule.Wide
width None = Rule.narrow
width (Some Utf16Be) = Rule.utf_16_be
width (Some Utf16Le) = Rule.utf_16_le
width (Some Utf32Be) = Rule.utf_32_be
width (Some Utf32Le) = Rule.utf_32_le
