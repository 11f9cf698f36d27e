-- The levels, the tolerances, and both tables of the attribute job aid.
-- Definitions: nothing is assumed. Made by tools/attributes, as is src/table.rt: neither is edited by hand.
use Rattle.std.specs.Prelude.{ℕ, List, [], ◌∷◌}

unfoldable pub levels : List ℕ
levels = 90 ∷ 95 ∷ 99 ∷ []

unfoldable pub tolerances : List ℕ
tolerances = 1 ∷ 3 ∷ 5 ∷ 7 ∷ 10 ∷ []

-- a row for each tolerance, and in it the sample size of each level
unfoldable pub sizes : List ℕ
sizes =
    230 ∷ 299 ∷ 459 ∷
    76 ∷ 99 ∷ 152 ∷
    45 ∷ 59 ∷ 90 ∷
    32 ∷ 42 ∷ 64 ∷
    22 ∷ 29 ∷ 44 ∷ []

-- a row for each sample size, and in it the bound in hundredths of a percent for each of 0 to 10 exceptions
unfoldable pub bounds : List ℕ
bounds =
    100 ∷ 169 ∷ 230 ∷ 289 ∷ 345 ∷ 400 ∷ 454 ∷ 507 ∷ 559 ∷ 611 ∷ 662 ∷
    100 ∷ 158 ∷ 210 ∷ 258 ∷ 304 ∷ 349 ∷ 393 ∷ 436 ∷ 478 ∷ 520 ∷ 561 ∷
    100 ∷ 144 ∷ 182 ∷ 218 ∷ 251 ∷ 284 ∷ 315 ∷ 346 ∷ 376 ∷ 405 ∷ 435 ∷
    299 ∷ 503 ∷ 686 ∷ 858 ∷ 1025 ∷ 1187 ∷ 1345 ∷ 1501 ∷ 1654 ∷ 1805 ∷ 1955 ∷
    299 ∷ 471 ∷ 623 ∷ 765 ∷ 901 ∷ 1033 ∷ 1162 ∷ 1288 ∷ 1411 ∷ 1533 ∷ 1654 ∷
    299 ∷ 429 ∷ 542 ∷ 646 ∷ 745 ∷ 840 ∷ 932 ∷ 1022 ∷ 1110 ∷ 1197 ∷ 1282 ∷
    499 ∷ 838 ∷ 1140 ∷ 1425 ∷ 1699 ∷ 1964 ∷ 2224 ∷ 2478 ∷ 2727 ∷ 2973 ∷ 3216 ∷
    496 ∷ 779 ∷ 1029 ∷ 1263 ∷ 1485 ∷ 1700 ∷ 1909 ∷ 2114 ∷ 2314 ∷ 2511 ∷ 2706 ∷
    499 ∷ 715 ∷ 902 ∷ 1074 ∷ 1236 ∷ 1393 ∷ 1544 ∷ 1691 ∷ 1835 ∷ 1975 ∷ 2114 ∷
    695 ∷ 1162 ∷ 1579 ∷ 1970 ∷ 2345 ∷ 2707 ∷ 3060 ∷ 3405 ∷ 3742 ∷ 4074 ∷ 4400 ∷
    689 ∷ 1081 ∷ 1425 ∷ 1744 ∷ 2049 ∷ 2342 ∷ 2627 ∷ 2904 ∷ 3176 ∷ 3442 ∷ 3704 ∷
    695 ∷ 993 ∷ 1250 ∷ 1486 ∷ 1709 ∷ 1922 ∷ 2128 ∷ 2328 ∷ 2524 ∷ 2715 ∷ 2902 ∷
    994 ∷ 1656 ∷ 2243 ∷ 2790 ∷ 3311 ∷ 3812 ∷ 4297 ∷ 4769 ∷ 5228 ∷ 5676 ∷ 6112 ∷
    982 ∷ 1534 ∷ 2016 ∷ 2462 ∷ 2884 ∷ 3289 ∷ 3680 ∷ 4060 ∷ 4430 ∷ 4791 ∷ 5143 ∷
    994 ∷ 1416 ∷ 1777 ∷ 2107 ∷ 2418 ∷ 2715 ∷ 3000 ∷ 3276 ∷ 3544 ∷ 3806 ∷ 4062 ∷ []
