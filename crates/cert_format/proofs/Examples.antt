-- Worked examples of the texts of certificates and of refused lines, each proved by reckoning.
use Rattle.std.proofs.Common.{◌≡◌, ℕ, pos, negsuc, inl, List, [], ◌∷◌, refl}
use Rattle.std.specs.Prelude.{codes}
use Rattle.std.specs.Fmt.{digits}
use Rattle.screen_model.specs.declared.bound.BoundName.{BoundName}
use Rattle.screen_model.specs.declared.bound.Side.TheVariants.{Up, Down}
use Rattle.cert_format.specs.declared.cert.Cert.TheVariants.{Repair, Priced, NoSeries}
use Rattle.cert_format.specs.declared.fault.CertRead.TheVariants.{Syntax}
use Rattle.cert_format.specs.declared.draft.Draft.TheVariants.{Empty, Headed}
use Rattle.cert_format.specs.declared.line.Version.TheVariants.{Two}
use Rattle.cert_format.specs.declared.line.Line.TheVariants.{Header, ClaimNone}
use Rattle.cert_format.specs.Cert.{text_of_cert}
use Rattle.cert_format.specs.Reads.{Refuses}
use Rattle.cert_format.proofs.Refusals.{nothing_read, read_on, refused_next, refused_without_feed}

unchanged : text_of_cert (Repair (pos 0) [] []) ≡ codes "screen-cert 1\nclaim repair\ntotal 0\nend\n"
unfolding digits
unchanged = refl

one_change : text_of_cert (Repair (pos 8) (record { place = record { row = 3; col = 2 }; value = negsuc 11 } ∷ []) (record { name = record { rule = 1; from_row = 2; to_row = 3; col = 2; side = Up }; amount = pos 1 } ∷ []))
    ≡ codes "screen-cert 1\nclaim repair\ntotal 8\nset 3 2 -12\nflow 1 2 3 2 up 1\nend\n"
unfolding digits
one_change = refl

priced : text_of_cert (Priced (pos 99) (pos 100) [] []) ≡ codes "screen-cert 2\nclaim repair\ntotal 99\npaid 100\nend\n"
unfolding digits
priced = refl

abbrev step : BoundName
step = record { rule = 20; from_row = 1; to_row = 1; col = 2; side = Down }

cycle : text_of_cert (NoSeries (step ∷ [])) ≡ codes "screen-cert 1\nclaim none\nstep 20 1 1 2 down\nend\n"
unfolding digits
cycle = refl

-- the empty text has an empty first line
empty_text : Refuses [] (Syntax 1)
empty_text = refused_without_feed [] Empty [] (nothing_read []) tt (inl refl)

abbrev second_without_repair : List ℕ
second_without_repair = codes "screen-cert 2\nclaim none\n"

-- no cycle is claimed in the second version
wrong_claim : Refuses second_without_repair (Syntax 2)
wrong_claim =
    let read = (read_on second_without_repair Empty second_without_repair (Header Two) (codes "claim none\n") (Headed Two) (nothing_read second_without_repair) tt refl refl).read in
    refused_next second_without_repair (Headed Two) (codes "claim none\n") ClaimNone [] read (record { is = tt; text = refl }) refl
