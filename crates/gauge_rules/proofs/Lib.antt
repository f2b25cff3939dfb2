mod Firsts
mod LevelTurns
mod Small
mod Some
